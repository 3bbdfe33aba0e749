use Rattle.std.proofs.Common.{ℕ, ◌<◌, sym, subst, ◌∙◌, arith, List, length}
use Rattle.std.specs.Prelude.{All}
use Rattle.ofit_tree.specs.declared.slot.Slot.{Slot}
use Rattle.ofit_tree.specs.Forest.{IsCurrent, IsOutdated, IsOpenAbove, IsNoneAbove}
use Rattle.ofit_tree.proofs.Steps.{step_passes, entry_inside, top_inside, step_settles, settles_count}
use Rattle.ofit_tree.proofs.forest.take_up.Goals as goal

pub current-requires : goal.current-requires
current-requires g c = subst (λ (xs : List (Slot g.row.L-Pool.Denot)). c.args.entry.now.block < length xs) (sym c.deref.ensures.value)
    (entry_inside c.args.tree.direction g.L.Loss.IsPoolOf g.L.Loss.meaning g.L.Loss.STRICT g.met.L.Loss.laws c.args.tree.groups.now c.args.tree.parents.now c.requires.tree c.args.forest.now.labels.items c.args.forest.now.slots.items c.args.entry.now _ c.requires.forest)

pub returns-in_default-clause-forest : goal.returns-in_default-clause-forest
returns-in_default-clause-forest g c =
    step_passes c.args.tree.direction g.L.Loss.IsPoolOf g.L.Loss.meaning g.L.Loss.STRICT g.met.L.Loss.laws c.args.tree.groups.now c.args.tree.parents.now c.requires.tree c.args.forest.now.labels.items c.args.forest.now.slots.items c.args.entry.now _ c.requires.forest
    (subst (λ (xs : List (Slot g.row.L-Pool.Denot)). IsOutdated c.args.tree.direction xs c.args.entry.now) c.deref.ensures.value c.in_default.ensures.none)

pub open_above-requires-clause-parents : goal.open_above-requires-clause-parents
open_above-requires-clause-parents g c = λ i p up. subst (λ (xs : List ℕ). p < length xs) (sym c.deref-2.ensures.value)
    (subst (λ (n : ℕ). p < n) (c.requires.tree.one_each ∙ sym c.requires.forest.labels_count) (c.requires.tree.rooted.places i p up))

pub open_above-requires-clause-labels : goal.open_above-requires-clause-labels
open_above-requires-clause-labels g c = subst (λ (xs : List ℕ). All (λ k. k < length c.deref-3.result.now) xs) (sym c.deref-2.ensures.value)
    (subst (λ (xs : List (Slot g.row.L-Pool.Denot)). All (λ k. k < length xs) c.args.forest.now.labels.items) (sym c.deref-3.ensures.value)
    (subst (λ (n : ℕ). All (λ k. k < n) c.args.forest.now.labels.items) (sym c.requires.forest.slots_count) c.requires.forest.numbers))

pub open_above-requires-clause-place : goal.open_above-requires-clause-place
open_above-requires-clause-place g c =
    top_inside c.args.tree.direction g.L.Loss.IsPoolOf g.L.Loss.meaning g.L.Loss.STRICT g.met.L.Loss.laws c.args.tree.groups.now c.args.tree.parents.now c.requires.tree c.args.forest.now.labels.items c.args.forest.now.slots.items c.args.entry.now _ c.requires.forest
    c.in-Some.found.top c.in-Some.found.value (subst (λ (xs : List (Slot g.row.L-Pool.Denot)). IsCurrent c.args.tree.direction xs c.args.entry.now c.in-Some.found.top c.in-Some.found.value) c.deref.ensures.value c.in-Some.ensures.some)

pub absorb-requires-clause-child : goal.absorb-requires-clause-child
absorb-requires-clause-child g c = record {
  top = c.in-Some.found.top;
  value = c.in-Some.found.value;
  current = subst (λ (xs : List (Slot g.row.L-Pool.Denot)). IsCurrent c.args.tree.direction xs c.args.entry.now c.in-Some.found.top c.in-Some.found.value) c.deref.ensures.value c.in-Some.ensures.some;
  above = subst (λ (xs : List ℕ). IsOpenAbove c.args.tree.parents.now xs c.args.forest.now.slots.items c.in-Some.found.top c.in-Some-open_above.above) c.deref-2.ensures.value
      (subst (λ (xs : List (Slot g.row.L-Pool.Denot)). IsOpenAbove c.args.tree.parents.now c.deref-2.result.now xs c.in-Some.found.top c.in-Some-open_above.above) c.deref-3.ensures.value c.in-Some-open_above.ensures.some);
}

pub put-requires : goal.put-requires
put-requires g c = entry_inside c.args.tree.direction g.L.Loss.IsPoolOf g.L.Loss.meaning g.L.Loss.STRICT g.met.L.Loss.laws c.args.tree.groups.now c.args.tree.parents.now c.requires.tree c.args.forest.now.labels.items c.args.forest.now.slots.items c.args.entry.now _ c.requires.forest

pub returns-in-None-clause-forest : goal.returns-in-None-clause-forest
returns-in-None-clause-forest g c =
    step_settles c.args.tree.direction g.L.Loss.IsPoolOf g.L.Loss.meaning g.L.Loss.STRICT g.met.L.Loss.laws c.args.tree.groups.now c.args.tree.parents.now c.requires.tree c.args.forest.now.labels.items c.args.forest.now.slots.items c.args.entry.now _ c.requires.forest
    c.in-Some.found.top c.in-Some.found.value (subst (λ (xs : List (Slot g.row.L-Pool.Denot)). IsCurrent c.args.tree.direction xs c.args.entry.now c.in-Some.found.top c.in-Some.found.value) c.deref.ensures.value c.in-Some.ensures.some) c.requires.first
    (subst (λ (xs : List ℕ). IsNoneAbove c.args.tree.parents.now xs c.args.forest.now.slots.items c.in-Some.found.top) c.deref-2.ensures.value
    (subst (λ (xs : List (Slot g.row.L-Pool.Denot)). IsNoneAbove c.args.tree.parents.now c.deref-2.result.now xs c.in-Some.found.top) c.deref-3.ensures.value c.in-None.ensures.none))
    c.put.new.slots.items c.put.ensures

pub returns-in-None-clause-fewer : goal.returns-in-None-clause-fewer
returns-in-None-clause-fewer g c = omega (
  arith,
  settles_count c.args.tree.direction g.L.Loss.IsPoolOf g.L.Loss.meaning g.L.Loss.STRICT g.met.L.Loss.laws c.args.tree.groups.now c.args.tree.parents.now c.requires.tree c.args.forest.now.labels.items c.args.forest.now.slots.items c.args.entry.now _ c.requires.forest
      c.in-Some.found.top c.in-Some.found.value (subst (λ (xs : List (Slot g.row.L-Pool.Denot)). IsCurrent c.args.tree.direction xs c.args.entry.now c.in-Some.found.top c.in-Some.found.value) c.deref.ensures.value c.in-Some.ensures.some)
      c.put.new.slots.items _ c.put.ensures,
)
