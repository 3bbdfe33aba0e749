use Rattle.std.proofs.Common.{◌≡◌, ℕ, ◌<◌, ◌≤◌, refl, sym, ap, ◌∙◌, arith, List, length, get_or}
use Rattle.std.proofs.lemmas.Option.{slice_get_read, slice_get-get_or, get_or_from_slice_get}
use Rattle.std.proofs.lemmas.List.Elements.{All-get_or}
use Rattle.std.specs.Prelude.{All, slice_get, slice_index, Option, Some, None}
use Rattle.ofit_tree.specs.declared.block.Block.{Block}
use Rattle.ofit_tree.specs.declared.slot.Slot.{Slot}
use Rattle.ofit_tree.specs.declared.slot.Slot.TheVariants.{Open, Settled, Joined}
use Rattle.ofit_tree.specs.Tree.{IsParent}
use Rattle.ofit_tree.specs.Forest.{IsNoneAbove}
use Rattle.ofit_tree.proofs.Pairs.{one_parent}
use Rattle.ofit_tree.proofs.Closing.{open_settled, open_joined}
use Rattle.ofit_tree.proofs.waiting.open_above.Goals as goal

parent_at : (parents : List (Option ℕ)) (place p : ℕ) → place < length parents → get_or parents place None ≡ Some p → IsParent parents place p
parent_at parents place p l e = slice_get-get_or parents place None l ∙ ap (λ o. Some o) e

module _ {P : Type 0} (parents : List (Option ℕ)) (labels : List ℕ) (slots : List (Slot P)) (place p : ℕ) (l : place < length parents) (e : get_or parents place None ≡ Some p)
    (inside : (g p : ℕ) → slice_get parents g ≡ Some (Some p) → p < length labels) (below : All (λ k. k < length slots) labels) where
  label_inside : get_or labels p 0 < length slots
  label_inside = All-get_or (λ k. k < length slots) labels p 0 (inside place p (parent_at parents place p l e)) below

  label_within : get_or labels p 0 ≤ length slots
  label_within = omega (arith, label_inside)

slot_is : {P : Type 0} (parents : List (Option ℕ)) (labels : List ℕ) (slots : List (Slot P)) (place p : ℕ) (x : Slot P) → IsParent parents place p → ((g p : ℕ) → slice_get parents g ≡ Some (Some p) → p < length labels) → All (λ k. k < length slots) labels
    → x ≡ get_or slots (get_or labels p 0) x → slice_get slots (slice_index labels p) ≡ Some x
slot_is parents labels slots place p x up inside below e = slice_get_read slots (length slots) (get_or labels p 0) x refl (All-get_or (λ k. k < length slots) labels p 0 (inside place p up) below) e

none_above : {P : Type 0} (parents : List (Option ℕ)) (labels : List ℕ) (slots : List (Slot P)) (place p : ℕ) (x : Slot P) → IsParent parents place p → slice_get slots (slice_index labels p) ≡ Some x → ((b : Block P) → ◌≡◌ {A = Option (Slot P)} (Some (Open b)) (Some x) → ⊥) → IsNoneAbove parents labels slots place
none_above parents labels slots place p x up at other q e b f = other b (sym f ∙ ap (λ (n : ℕ). slice_get slots (slice_index labels n)) (one_parent parents place q p e up) ∙ at)

pub returns-in_default-clause-none : goal.returns-in_default-clause-none
returns-in_default-clause-none g c = λ p up b e. c.in_default.not-Some p (get_or_from_slice_get c.args.parents.now c.args.place (Some p) None up)

pub bounds-labels-parent : goal.bounds-labels-parent
bounds-labels-parent g c = c.requires.parents c.args.place c.in-Some.parent (parent_at c.args.parents.now c.args.place c.in-Some.parent c.requires.place c.in-Some.is)

pub offset_bounds-slots-label : goal.offset_bounds-slots-label
offset_bounds-slots-label g c = label_within c.args.parents.now c.args.labels.now c.args.slots.now c.args.place c.in-Some.parent c.requires.place c.in-Some.is c.requires.parents c.requires.labels

pub bounds-slots-label : goal.bounds-slots-label
bounds-slots-label g c = label_inside c.args.parents.now c.args.labels.now c.args.slots.now c.args.place c.in-Some.parent c.requires.place c.in-Some.is c.requires.parents c.requires.labels

pub returns-in-Open-clause-some : goal.returns-in-Open-clause-some
returns-in-Open-clause-some g c =
    let up : IsParent c.args.parents.now c.args.place c.in-Some.parent = parent_at c.args.parents.now c.args.place c.in-Some.parent c.requires.place c.in-Some.is in (
      c.in-Some.parent,
      up,
      refl,
      (c.in-Open.field-0, slot_is c.args.parents.now c.args.labels.now c.args.slots.now c.args.place c.in-Some.parent c.index-slots-label.result up c.requires.parents c.requires.labels c.index-slots-label.is ∙ ap (λ s. Some s) c.in-Open.is),
    )

pub returns-in-Settled-clause-none : goal.returns-in-Settled-clause-none
returns-in-Settled-clause-none g c =
    let up : IsParent c.args.parents.now c.args.place c.in-Some.parent = parent_at c.args.parents.now c.args.place c.in-Some.parent c.requires.place c.in-Some.is in
    none_above c.args.parents.now c.args.labels.now c.args.slots.now c.args.place c.in-Some.parent (Settled c.in-Settled.field-0) up
    (slot_is c.args.parents.now c.args.labels.now c.args.slots.now c.args.place c.in-Some.parent c.index-slots-label.result up c.requires.parents c.requires.labels c.index-slots-label.is ∙ ap (λ s. Some s) c.in-Settled.is)
    (λ b e. open_settled b c.in-Settled.field-0 e)

pub returns-in-Joined-clause-none : goal.returns-in-Joined-clause-none
returns-in-Joined-clause-none g c =
    let up : IsParent c.args.parents.now c.args.place c.in-Some.parent = parent_at c.args.parents.now c.args.place c.in-Some.parent c.requires.place c.in-Some.is in
    none_above c.args.parents.now c.args.labels.now c.args.slots.now c.args.place c.in-Some.parent Joined up
    (slot_is c.args.parents.now c.args.labels.now c.args.slots.now c.args.place c.in-Some.parent c.index-slots-label.result up c.requires.parents c.requires.labels c.index-slots-label.is ∙ ap (λ s. Some s) c.in-Joined.is)
    (λ b e. open_joined b e)
