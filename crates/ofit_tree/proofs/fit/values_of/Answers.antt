use Rattle.std.proofs.Common.{◌≡◌, ℕ, ◌<◌, ◌≤◌, refl, sym, ap, subst, ◌∙◌, arith, List, length, get_or}
use Rattle.std.proofs.lemmas.Option.{slice_get_read}
use Rattle.std.proofs.lemmas.List.Elements.{All-get_or}
use Rattle.std.specs.Prelude.{All, slice_get, slice_index, Some}
use Rattle.ofit_tree.specs.declared.slot.Slot.{Slot}
use Rattle.ofit_tree.specs.Forest.{AreSettledValues}
use Rattle.ofit_tree.proofs.Closing.{open_settled, settled_joined}
use Rattle.ofit_tree.proofs.Queues.{values_more}
use Rattle.ofit_tree.proofs.fit.values_of.Goals as goal

label_inside : {P : Type 0} (labels : List ℕ) (slots : List (Slot P)) (i : ℕ) → All (λ k. k < length slots) labels → i < length labels → get_or labels i 0 < length slots
label_inside labels slots i below l = All-get_or (λ k. k < length slots) labels i 0 l below

label_within : {P : Type 0} (labels : List ℕ) (slots : List (Slot P)) (i : ℕ) → All (λ k. k < length slots) labels → i < length labels → get_or labels i 0 ≤ length slots
label_within labels slots i below l = omega (arith, label_inside labels slots i below l)

slot_is : {P : Type 0} (labels : List ℕ) (slots : List (Slot P)) (i : ℕ) (x : Slot P) → All (λ k. k < length slots) labels → i < length labels → x ≡ get_or slots (get_or labels i 0) x → slice_get slots (slice_index labels i) ≡ Some x
slot_is labels slots i x below l e = slice_get_read slots (length slots) (get_or labels i 0) x refl (label_inside labels slots i below l) e

pub offset_bounds-slots-label : goal.offset_bounds-slots-label
offset_bounds-slots-label g c = label_within c.args.labels.now c.args.slots.now c.loop-label.label-index c.requires.labels c.loop-label-test.true

pub bounds-slots-label : goal.bounds-slots-label
bounds-slots-label g c = label_inside c.args.labels.now c.args.slots.now c.loop-label.label-index c.requires.labels c.loop-label-test.true

pub unreachable-requires : goal.unreachable-requires
unreachable-requires g c = open_settled c.in-Open.field-0 (c.requires.settled c.loop-label.label-index c.loop-label-test.true).0
    (sym (slot_is c.args.labels.now c.args.slots.now c.loop-label.label-index c.index-slots-label.result c.requires.labels c.loop-label-test.true c.index-slots-label.is ∙ ap (λ s. Some s) c.in-Open.is) ∙ (c.requires.settled c.loop-label.label-index c.loop-label-test.true).1)

pub unreachable-requires-in-Joined : goal.unreachable-requires-in-Joined
unreachable-requires-in-Joined g c = settled_joined (c.requires.settled c.loop-label.label-index c.loop-label-test.true).0
    (sym (c.requires.settled c.loop-label.label-index c.loop-label-test.true).1 ∙ slot_is c.args.labels.now c.args.slots.now c.loop-label.label-index c.index-slots-label.result c.requires.labels c.loop-label-test.true c.index-slots-label.is ∙ ap (λ s. Some s) c.in-Joined.is)

pub loop-label-preserved : goal.loop-label-preserved
loop-label-preserved g c = rw c.in_ok-push-in-Settled.ensures.items (values_more c.args.labels.now c.args.slots.now c.loop-label.label-index c.loop-label.values.items c.in-Settled.value c.loop-label.invariant
    (slot_is c.args.labels.now c.args.slots.now c.loop-label.label-index c.index-slots-label.result c.requires.labels c.loop-label-test.true c.index-slots-label.is ∙ ap (λ s. Some s) c.in-Settled.is))

pub returns : goal.returns
returns g c = subst (λ (n : ℕ). AreSettledValues c.args.labels.now c.args.slots.now n c.loop-label.values.items) (omega arith) c.loop-label.invariant
