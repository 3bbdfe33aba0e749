use Rattle.std.proofs.Common.{◌≡◌, ◌↔◌, ◌⊎◌, ◌∙◌, ◌∷◌, [], ℕ, List, Some, ap, sym, subst}
use Rattle.ofit_study.specs.declared.edit.Edit.{Edit}
use Rattle.ofit_study.specs.Edited.{touched}
use Rattle.ofit_session.specs.Refit.{HasOneNamed}
use Rattle.ofit_session.proofs.Touches.{one_touched}
use Rattle.ofit_session.proofs.touch.both_touched.Goals as goal

pub returns-in-Add : goal.returns-in-Add
returns-in-Add c =
    one_touched c.args.order.now c.args.after.now (touched c.args.before.now c.args.edit.now) c.bytes.result.now c.component_named.result
    (ap (touched c.args.before.now) c.in-Add.is ∙ ap (λ (t : List ℕ). t ∷ []) (sym c.bytes.ensures.value)) c.component_named.ensures

pub returns-in-Remove : goal.returns-in-Remove
returns-in-Remove c =
    subst (λ (e : Edit). (k : ℕ) → HasOneNamed c.args.order.now c.args.after.now (touched c.args.before.now e) k ↔ ((c.row_touched.result.0 ≡ Some k) ⊎ (c.row_touched.result.1 ≡ Some k))) (sym c.in-Remove.is) c.row_touched.ensures

pub returns-in-Value : goal.returns-in-Value
returns-in-Value c =
    subst (λ (e : Edit). (k : ℕ) → HasOneNamed c.args.order.now c.args.after.now (touched c.args.before.now e) k ↔ ((c.row_touched-in-Value.result.0 ≡ Some k) ⊎ (c.row_touched-in-Value.result.1 ≡ Some k))) (sym c.in-Value.is) c.row_touched-in-Value.ensures

pub returns-in-Weight : goal.returns-in-Weight
returns-in-Weight c =
    subst (λ (e : Edit). (k : ℕ) → HasOneNamed c.args.order.now c.args.after.now (touched c.args.before.now e) k ↔ ((c.row_touched-in-Weight.result.0 ≡ Some k) ⊎ (c.row_touched-in-Weight.result.1 ≡ Some k))) (sym c.in-Weight.is) c.row_touched-in-Weight.ensures

pub returns-in-Relate : goal.returns-in-Relate
returns-in-Relate c =
    subst (λ (e : Edit). (k : ℕ) → HasOneNamed c.args.order.now c.args.after.now (touched c.args.before.now e) k ↔ ((c.ends_touched.result.0 ≡ Some k) ⊎ (c.ends_touched.result.1 ≡ Some k))) (sym c.in-Relate.is)
    (subst (λ (low : List ℕ). (k : ℕ) → HasOneNamed c.args.order.now c.args.after.now (low ∷ c.in-Relate.high ∷ []) k ↔ ((c.ends_touched.result.0 ≡ Some k) ⊎ (c.ends_touched.result.1 ≡ Some k))) c.bytes-in-Relate.ensures.value
    (subst (λ (high : List ℕ). (k : ℕ) → HasOneNamed c.args.order.now c.args.after.now (c.bytes-in-Relate.result.now ∷ high ∷ []) k ↔ ((c.ends_touched.result.0 ≡ Some k) ⊎ (c.ends_touched.result.1 ≡ Some k))) c.bytes-in-Relate-2.ensures.value c.ends_touched.ensures))

pub returns-in-Unrelate : goal.returns-in-Unrelate
returns-in-Unrelate c =
    subst (λ (e : Edit). (k : ℕ) → HasOneNamed c.args.order.now c.args.after.now (touched c.args.before.now e) k ↔ ((c.ends_touched-in-Unrelate.result.0 ≡ Some k) ⊎ (c.ends_touched-in-Unrelate.result.1 ≡ Some k))) (sym c.in-Unrelate.is)
    (subst (λ (low : List ℕ). (k : ℕ) → HasOneNamed c.args.order.now c.args.after.now (low ∷ c.in-Unrelate.high ∷ []) k ↔ ((c.ends_touched-in-Unrelate.result.0 ≡ Some k) ⊎ (c.ends_touched-in-Unrelate.result.1 ≡ Some k))) c.bytes-in-Unrelate.ensures.value
    (subst (λ (high : List ℕ). (k : ℕ) → HasOneNamed c.args.order.now c.args.after.now (c.bytes-in-Unrelate.result.now ∷ high ∷ []) k ↔ ((c.ends_touched-in-Unrelate.result.0 ≡ Some k) ⊎ (c.ends_touched-in-Unrelate.result.1 ≡ Some k))) c.bytes-in-Unrelate-2.ensures.value c.ends_touched-in-Unrelate.ensures))
