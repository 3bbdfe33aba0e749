-- The rules of a step, one by one.
use Rattle.std.proofs.Common.{◌≡◌, ℕ, suc, ◌+◌, ◌<◌, List, [], length, Option, Some, inl, inr, sym, ap, subst, ◌∙◌, arith}
use Rattle.std.proofs.lemmas.Bool.{cases_lt}
use Rattle.std.proofs.lemmas.Int.{ints}
use Rattle.std.proofs.lemmas.Option.{get_or_from_slice_get}
use Rattle.std.specs.Prelude.{ℤ, pos, ◌≤ℤ◌, ◌<ℤ◌, ◌↔◌, slice_get, unwrap_or}
use Rattle.ofit_num.specs.declared.row.Row.{Row}
use Rattle.ofit_sheet.specs.PeakVerdict.{value_at, amount_at, IsInSpan, JoinsEqual}
use Rattle.ofit_check.specs.declared.peak.slope.Slope.{Slope}
use Rattle.ofit_check.specs.declared.peak.slope.Slope.TheVariants.{Rise, Fall}
use Rattle.ofit_check.specs.PeakSteps.{AreInOrder, KeepsOrder, IsStep, step_balance}

module _ (rows : List Row) (side : List (ℤ × ℤ)) (j : ℕ) where
  pub step_made : (slope : Slope) → KeepsOrder slope side j → JoinsEqual side j → IsInSpan rows (value_at side j) (step_balance slope side j) → IsStep slope rows side j
  step_made Rise o t b = record { order = o; tight = t; balance = b }
  step_made Fall o t b = record { order = o; tight = t; balance = b }

  pub step_order : (slope : Slope) → IsStep slope rows side j → KeepsOrder slope side j
  step_order Rise h = h.order
  step_order Fall h = h.order

  pub step_tight : (slope : Slope) → IsStep slope rows side j → JoinsEqual side j
  step_tight Rise h = h.tight
  step_tight Fall h = h.tight

  pub step_span : (slope : Slope) → IsStep slope rows side j → IsInSpan rows (value_at side j) (step_balance slope side j)
  step_span Rise h = h.balance
  step_span Fall h = h.balance

pub value_there : (side : List (ℤ × ℤ)) (j : ℕ) (step : ℤ × ℤ) → slice_get side j ≡ Some step → value_at side j ≡ step.0
value_there side j step e = ap (λ (t : ℤ × ℤ). t.0) (get_or_from_slice_get side j step (pos 0, pos 0) e)

pub amount_there : (side : List (ℤ × ℤ)) (j : ℕ) (step : ℤ × ℤ) → slice_get side j ≡ Some step → amount_at side j ≡ step.1
amount_there side j step e = ap (λ (t : ℤ × ℤ). t.1) (get_or_from_slice_get side j step (pos 0, pos 0) e)

-- a step and the next one
module _ (side : List (ℤ × ℤ)) (j : ℕ) (step : ℤ × ℤ) (here : slice_get side j ≡ Some step) where
  pub tight_without : step.1 ≤ℤ pos 0 → JoinsEqual side j
  tight_without least room flows = absurd (omega (arith, ints, amount_there side j step here, least, flows))

  module _ (next : ℤ × ℤ) (behind : slice_get side (j + 1) ≡ Some next) (room : j + 1 < length side) where
    at_next : value_at side (suc j) ≡ next.0
    at_next = ap (value_at side) (let a : suc j ≡ j + 1 = omega arith in a) ∙ value_there side (j + 1) next behind

    pub tight_told : pos 0 <ℤ step.1 → (step.0 ≡ next.0) ↔ JoinsEqual side j
    tight_told flows = (
      λ e _ _. value_there side j step here ∙ e ∙ sym at_next,
      λ h. sym (value_there side j step here) ∙ h (omega (arith, room)) (subst (λ (z : ℤ). pos 0 <ℤ z) (sym (amount_there side j step here)) flows) ∙ at_next,
    )

    pub order_told : (slope : Slope) → AreInOrder slope step.0 next.0 ↔ KeepsOrder slope side j
    order_told slope = (
      λ h _. subst (λ (z : ℤ). AreInOrder slope z (value_at side (suc j))) (sym (value_there side j step here)) (subst (λ (z : ℤ). AreInOrder slope step.0 z) (sym at_next) h),
      λ h. subst (λ (z : ℤ). AreInOrder slope step.0 z) at_next (subst (λ (z : ℤ). AreInOrder slope z (value_at side (suc j))) (value_there side j step here) (h (omega (arith, room)))),
    )

pub rows_there : (groups : List (List Row)) (g : ℕ) (rows : List Row) → slice_get groups g ≡ Some rows → unwrap_or (slice_get groups g) [] ≡ rows
rows_there groups g rows e = ap (λ (o : Option (List Row)). unwrap_or o []) e

-- what holds of all numbers below n, and of n
pub below_more : (P : ℕ → Type 0) (n : ℕ) → ((k : ℕ) → k < n → P k) → P n → (k : ℕ) → k < n + 1 → P k
below_more P n h p k l = elim (cases_lt k n) [
  | inl less ↦ h k less
  | inr more ↦ let last : n ≡ k = omega (arith, l, more) in subst P last p
]
