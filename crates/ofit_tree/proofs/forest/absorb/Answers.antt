use Rattle.std.proofs.Common.{◌≡◌, ℕ, ◌<◌, sym, ap, subst, ◌∙◌, arith, List, length, set}
use Rattle.std.proofs.lemmas.List.{length-set}
use Rattle.std.specs.Prelude.{slice_get, Some}
use Rattle.ofit_tree.specs.declared.block.Block.{Block}
use Rattle.ofit_tree.specs.declared.slot.Slot.{Slot}
use Rattle.ofit_tree.specs.declared.slot.Slot.TheVariants.{Open, Joined}
use Rattle.std.specs.BinaryHeap.{heap_items}
use Rattle.ofit_tree.specs.Merge.{IsRenumbered}
use Rattle.ofit_tree.proofs.Steps.{both_apart, can_merge, upper_inside, child_inside, number_below, step_absorbs, step_count}
use Rattle.ofit_tree.proofs.forest.absorb.Goals as goal
use Rattle.ofit_num.proofs.Elements.{other_set}

-- a block that waits still does where another slot was changed
still_open : {P : Type 0} (slots slots1 : List (Slot P)) (above below : ℕ) (b : Block P) → slots1 ≡ set slots above Joined → (above ≡ below → ⊥) → slice_get slots below ≡ Some (Open b) → slice_get slots1 below ≡ Some (Open b)
still_open {P} slots slots1 above below b e out at = ap (λ (xs : List (Slot P)). slice_get xs below) e ∙ other_set slots above below Joined (λ f. out (sym f)) ∙ at

was_open : {P : Type 0} (slots slots1 : List (Slot P)) (above below : ℕ) (b : Block P) → slots1 ≡ set slots above Joined → (above ≡ below → ⊥) → slice_get slots1 below ≡ Some (Open b) → slice_get slots below ≡ Some (Open b)
was_open {P} slots slots1 above below b e out at = sym (ap (λ (xs : List (Slot P)). slice_get xs below) e ∙ other_set slots above below Joined (λ f. out (sym f))) ∙ at

pub take_open-child-requires : goal.take_open-child-requires
take_open-child-requires g c = (
  c.requires.child.current.block,
  still_open c.args.forest.now.slots.items c.take_open-upper.new.slots.items c.args.above c.args.entry.now.block c.requires.child.current.block c.take_open-upper.ensures.joined
      (both_apart c.args.tree.direction g.L.Loss.IsPoolOf g.L.Loss.meaning g.L.Loss.STRICT g.met.L.Loss.laws c.args.tree.groups.now c.args.tree.parents.now c.requires.tree c.args.forest.now.labels.items c.args.forest.now.slots.items c.args.entry.now _ c.requires.forest c.requires.first c.args.above c.requires.child)
      c.requires.child.current.at,
)

pub renumber-number-requires-clause-upper : goal.renumber-number-requires-clause-upper
renumber-number-requires-clause-upper g c = rw c.deref.ensures.value
    (upper_inside c.args.tree.direction g.L.Loss.IsPoolOf g.L.Loss.meaning g.L.Loss.STRICT g.met.L.Loss.laws c.args.tree.groups.now c.args.tree.parents.now c.requires.tree c.args.forest.now.labels.items c.args.forest.now.slots.items c.args.entry.now _ c.requires.forest c.requires.first c.args.above c.requires.child
    c.take_open-upper.result c.take_open-upper.ensures.block c.take_open-child.result
    (was_open c.args.forest.now.slots.items c.take_open-upper.new.slots.items c.args.above c.args.entry.now.block c.take_open-child.result c.take_open-upper.ensures.joined
    (both_apart c.args.tree.direction g.L.Loss.IsPoolOf g.L.Loss.meaning g.L.Loss.STRICT g.met.L.Loss.laws c.args.tree.groups.now c.args.tree.parents.now c.requires.tree c.args.forest.now.labels.items c.args.forest.now.slots.items c.args.entry.now _ c.requires.forest c.requires.first c.args.above c.requires.child)
    c.take_open-child.ensures.block))

pub renumber-number-requires-clause-child : goal.renumber-number-requires-clause-child
renumber-number-requires-clause-child g c = rw c.deref-2.ensures.value
    (child_inside c.args.tree.direction g.L.Loss.IsPoolOf g.L.Loss.meaning g.L.Loss.STRICT g.met.L.Loss.laws c.args.tree.groups.now c.args.tree.parents.now c.requires.tree c.args.forest.now.labels.items c.args.forest.now.slots.items c.args.entry.now _ c.requires.forest c.requires.first c.args.above c.requires.child
    c.take_open-upper.result c.take_open-upper.ensures.block c.take_open-child.result
    (was_open c.args.forest.now.slots.items c.take_open-upper.new.slots.items c.args.above c.args.entry.now.block c.take_open-child.result c.take_open-upper.ensures.joined
    (both_apart c.args.tree.direction g.L.Loss.IsPoolOf g.L.Loss.meaning g.L.Loss.STRICT g.met.L.Loss.laws c.args.tree.groups.now c.args.tree.parents.now c.requires.tree c.args.forest.now.labels.items c.args.forest.now.slots.items c.args.entry.now _ c.requires.forest c.requires.first c.args.above c.requires.child)
    c.take_open-child.ensures.block))

pub merge-requires : goal.merge-requires
merge-requires g c = record {
  pools = can_merge c.args.tree.direction g.L.Loss.IsPoolOf g.L.Loss.meaning g.L.Loss.STRICT g.met.L.Loss.laws c.args.tree.groups.now c.args.tree.parents.now c.requires.tree c.args.forest.now.labels.items c.args.forest.now.slots.items c.args.entry.now _ c.requires.forest c.requires.first c.args.above c.requires.child
      c.take_open-upper.result c.take_open-upper.ensures.block c.take_open-child.result
      (was_open c.args.forest.now.slots.items c.take_open-upper.new.slots.items c.args.above c.args.entry.now.block c.take_open-child.result c.take_open-upper.ensures.joined
      (both_apart c.args.tree.direction g.L.Loss.IsPoolOf g.L.Loss.meaning g.L.Loss.STRICT g.met.L.Loss.laws c.args.tree.groups.now c.args.tree.parents.now c.requires.tree c.args.forest.now.labels.items c.args.forest.now.slots.items c.args.entry.now _ c.requires.forest c.requires.first c.args.above c.requires.child)
      c.take_open-child.ensures.block);
}

pub put-requires : goal.put-requires
put-requires g c =
    let r : IsRenumbered c.args.forest.now.labels.items c.renumber-number.new.labels.items c.take_open-upper.result.members.items c.take_open-child.result.members.items c.args.above c.args.entry.now.block c.renumber-number.result =
    subst (λ (xs : List ℕ). IsRenumbered c.args.forest.now.labels.items c.renumber-number.new.labels.items xs c.take_open-child.result.members.items c.args.above c.args.entry.now.block c.renumber-number.result) c.deref.ensures.value
    (subst (λ (ys : List ℕ). IsRenumbered c.args.forest.now.labels.items c.renumber-number.new.labels.items c.deref.result.now ys c.args.above c.args.entry.now.block c.renumber-number.result) c.deref-2.ensures.value c.renumber-number.ensures) in
    let l : c.renumber-number.result < length c.args.forest.now.slots.items = number_below c.args.tree.direction g.L.Loss.IsPoolOf g.L.Loss.meaning g.L.Loss.STRICT g.met.L.Loss.laws c.args.tree.groups.now c.args.tree.parents.now c.requires.tree c.args.forest.now.labels.items c.args.forest.now.slots.items c.args.entry.now _ c.requires.forest c.requires.first c.args.above c.requires.child
    c.take_open-upper.result c.take_open-upper.ensures.block c.take_open-child.result
    (was_open c.args.forest.now.slots.items c.take_open-upper.new.slots.items c.args.above c.args.entry.now.block c.take_open-child.result c.take_open-upper.ensures.joined
    (both_apart c.args.tree.direction g.L.Loss.IsPoolOf g.L.Loss.meaning g.L.Loss.STRICT g.met.L.Loss.laws c.args.tree.groups.now c.args.tree.parents.now c.requires.tree c.args.forest.now.labels.items c.args.forest.now.slots.items c.args.entry.now _ c.requires.forest c.requires.first c.args.above c.requires.child)
    c.take_open-child.ensures.block)
    c.renumber-number.new.labels.items c.renumber-number.result r in
    omega (
      arith,
      l,
      ap (λ (xs : List (Slot g.row.L-Pool.Denot)). length xs) c.take_open-child.ensures.joined,
      length-set c.take_open-upper.new.slots.items c.args.entry.now.block Joined,
      ap (λ (xs : List (Slot g.row.L-Pool.Denot)). length xs) c.take_open-upper.ensures.joined,
      length-set c.args.forest.now.slots.items c.args.above Joined,
    )

pub returns-clause-forest : goal.returns-clause-forest
returns-clause-forest g c =
    let r : IsRenumbered c.args.forest.now.labels.items c.renumber-number.new.labels.items c.take_open-upper.result.members.items c.take_open-child.result.members.items c.args.above c.args.entry.now.block c.renumber-number.result =
    subst (λ (xs : List ℕ). IsRenumbered c.args.forest.now.labels.items c.renumber-number.new.labels.items xs c.take_open-child.result.members.items c.args.above c.args.entry.now.block c.renumber-number.result) c.deref.ensures.value
    (subst (λ (ys : List ℕ). IsRenumbered c.args.forest.now.labels.items c.renumber-number.new.labels.items c.deref.result.now ys c.args.above c.args.entry.now.block c.renumber-number.result) c.deref-2.ensures.value c.renumber-number.ensures) in
    step_absorbs c.args.tree.direction g.L.Loss.IsPoolOf g.L.Loss.meaning g.L.Loss.STRICT g.met.L.Loss.laws c.args.tree.groups.now c.args.tree.parents.now c.requires.tree c.args.forest.now.labels.items c.args.forest.now.slots.items c.args.entry.now _ c.requires.forest c.requires.first c.args.above c.requires.child
    c.take_open-upper.result c.take_open-upper.ensures.block c.take_open-child.result
    (was_open c.args.forest.now.slots.items c.take_open-upper.new.slots.items c.args.above c.args.entry.now.block c.take_open-child.result c.take_open-upper.ensures.joined
    (both_apart c.args.tree.direction g.L.Loss.IsPoolOf g.L.Loss.meaning g.L.Loss.STRICT g.met.L.Loss.laws c.args.tree.groups.now c.args.tree.parents.now c.requires.tree c.args.forest.now.labels.items c.args.forest.now.slots.items c.args.entry.now _ c.requires.forest c.requires.first c.args.above c.requires.child)
    c.take_open-child.ensures.block)
    c.renumber-number.new.labels.items c.renumber-number.result r
    c.in_ok-block.block c.in_ok-block.ensures.pool c.in_ok-block.ensures.value c.in_ok-block.ensures.top c.in_ok-block.ensures.members c.rank_of.result c.rank_of.ensures
    (heap_items c.push.new.self) c.in_ok-push.ensures.permutation c.take_open-upper.new.slots.items c.take_open-child.new.slots.items c.put.new.slots.items
    c.take_open-upper.ensures.joined c.take_open-child.ensures.joined c.put.ensures

pub returns-clause-fewer : goal.returns-clause-fewer
returns-clause-fewer g c =
    let r : IsRenumbered c.args.forest.now.labels.items c.renumber-number.new.labels.items c.take_open-upper.result.members.items c.take_open-child.result.members.items c.args.above c.args.entry.now.block c.renumber-number.result =
    subst (λ (xs : List ℕ). IsRenumbered c.args.forest.now.labels.items c.renumber-number.new.labels.items xs c.take_open-child.result.members.items c.args.above c.args.entry.now.block c.renumber-number.result) c.deref.ensures.value
    (subst (λ (ys : List ℕ). IsRenumbered c.args.forest.now.labels.items c.renumber-number.new.labels.items c.deref.result.now ys c.args.above c.args.entry.now.block c.renumber-number.result) c.deref-2.ensures.value c.renumber-number.ensures) in
    omega (
      arith,
      c.in_ok-push.ensures.len,
      step_count c.args.tree.direction g.L.Loss.IsPoolOf g.L.Loss.meaning g.L.Loss.STRICT g.met.L.Loss.laws c.args.tree.groups.now c.args.tree.parents.now c.requires.tree c.args.forest.now.labels.items c.args.forest.now.slots.items c.args.entry.now _ c.requires.forest c.requires.first c.args.above c.requires.child
          c.take_open-upper.result c.take_open-upper.ensures.block c.take_open-child.result
          (was_open c.args.forest.now.slots.items c.take_open-upper.new.slots.items c.args.above c.args.entry.now.block c.take_open-child.result c.take_open-upper.ensures.joined
          (both_apart c.args.tree.direction g.L.Loss.IsPoolOf g.L.Loss.meaning g.L.Loss.STRICT g.met.L.Loss.laws c.args.tree.groups.now c.args.tree.parents.now c.requires.tree c.args.forest.now.labels.items c.args.forest.now.slots.items c.args.entry.now _ c.requires.forest c.requires.first c.args.above c.requires.child)
          c.take_open-child.ensures.block)
          c.renumber-number.new.labels.items c.renumber-number.result r
          c.in_ok-block.block c.in_ok-block.ensures.pool c.in_ok-block.ensures.value c.in_ok-block.ensures.top c.in_ok-block.ensures.members c.rank_of.result c.rank_of.ensures
          (heap_items c.push.new.self) c.in_ok-push.ensures.permutation c.take_open-upper.new.slots.items c.take_open-child.new.slots.items c.put.new.slots.items
          c.take_open-upper.ensures.joined c.take_open-child.ensures.joined c.put.ensures,
    )
