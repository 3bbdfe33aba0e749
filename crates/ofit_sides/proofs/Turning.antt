-- A rise read from its other end is a fall.
use Rattle.std.proofs.Common.{◌≡◌, ℕ, zero, suc, ◌+◌, ◌-◌, ◌<◌, ◌≤◌, ◌^◌, List, [], ◌∷◌, ◌++◌, length, sym, ap, ap₂, subst, ◌∙◌, arith, get_or, below_more}
use Rattle.std.proofs.lemmas.Int.{ints}
use Rattle.std.proofs.lemmas.List.{get_or_push, get_or_append_left}
use Rattle.std.proofs.lemmas.Option.{slice_get-get_or}
use Rattle.std.specs.Prelude.{ℤ, pos, ◌-ℤ◌, ◌≤ℤ◌, ◌<ℤ◌, IfSome, Option, unsigned_abs}
use Rattle.ofit_num.specs.declared.row.Row.{Row}
use Rattle.ofit_sheet.specs.Kept.{most_amount}
use Rattle.ofit_sheet.specs.Peaked.{IsStepInLimits}
use Rattle.ofit_sheet.specs.PeakVerdict.{value_at, amount_at, amount_before, IsInSpan}
use Rattle.ofit_sides.specs.Sides.{IsRise, IsFall}
use Rattle.ofit_sides.specs.Turned.{IsTurned}
use Rattle.ofit_sides.proofs.Rising.{last_amount, each_step}

module _ (rows : ℕ → List Row) (n : ℕ) (other : List (ℤ × ℤ)) (rise : IsRise rows n other) (side : List (ℤ × ℤ)) (turned : IsTurned side other) where
  long : length other ≡ n
  long = rise.shape.count

  -- the index at the other end
  abbrev back : ℕ → ℕ
  back j = length other - 1 - j

  value_is : (j k : ℕ) → suc (j + k) ≡ n → value_at side j ≡ value_at other k
  value_is j k e = turned.values j (omega (arith, e, long)) ∙ ap (value_at other) (let same : back j ≡ k = omega (arith, e, long) in same)

  amount_is : (j k : ℕ) → suc (j + k) ≡ n → amount_at side j ≡ amount_before other k
  amount_is j k e = turned.amounts j (omega (arith, e, long)) ∙ ap (amount_before other) (let same : back j ≡ k = omega (arith, e, long) in same)

  last_is : (k : ℕ) → suc k ≡ n → amount_at other k ≡ pos 0
  last_is k e =
      let inside : length other - 1 < length other = omega (arith, e, long) in
      let index : length other - 1 ≡ k = omega (arith, e, long) in
      ap (amount_at other) (sym index) ∙ subst (λ (o : Option (ℤ × ℤ)). IfSome o (λ step. step.1 ≡ pos 0)) (slice_get-get_or other (length other - 1) (pos 0, pos 0) inside) rise.shape.last

  before_is : (j k : ℕ) → suc (j + k) ≡ n → amount_before side j ≡ amount_at other k
  before_is zero k e = sym (last_is k (omega (arith, e)))
  before_is (suc j) k e = amount_is j (suc k) (omega (arith, e))

  order_at : (j k : ℕ) → suc (suc j + k) ≡ n → value_at side (suc j) ≤ℤ value_at side j
  order_at j k e =
      let up : value_at other k ≤ℤ value_at other (suc k) = (rise.steps k (omega (arith, e))).order (omega (arith, e, long)) in
      omega (arith, ints, up, value_is (suc j) k e, value_is j (suc k) (omega (arith, e)))

  tight_at : (j k : ℕ) → suc (suc j + k) ≡ n → pos 0 <ℤ amount_at side j → value_at side j ≡ value_at side (suc j)
  tight_at j k e some =
      let same : value_at other k ≡ value_at other (suc k) = (rise.steps k (omega (arith, e))).tight (omega (arith, e, long)) (subst (λ (z : ℤ). pos 0 <ℤ z) (amount_is j (suc k) (omega (arith, e))) some) in
      value_is j (suc k) (omega (arith, e)) ∙ sym same ∙ sym (value_is (suc j) k e)

  balance_at : (j k : ℕ) → suc (j + k) ≡ n → IsInSpan (rows k) (value_at side j) (amount_before side j -ℤ amount_at side j)
  balance_at j k e =
      subst (λ (v : ℤ). IsInSpan (rows k) v (amount_before side j -ℤ amount_at side j)) (sym (value_is j k e))
      (subst (IsInSpan (rows k) (value_at other k)) (ap₂ (λ (x y : ℤ). x -ℤ y) (sym (before_is j k e)) (sym (amount_is j k e))) (rise.steps k (omega (arith, e))).balance)

  before_keeps : (P : ℤ → Type 0) → P (pos 0) → ((k : ℕ) → k < n → P (amount_at other k)) → (k : ℕ) → k < n → P (amount_before other k)
  before_keeps P none h zero l = none
  before_keeps P none h (suc k) l = h k (omega (arith, l))

  abbrev far : ℕ → ℕ
  far j = n - 1 - j

  sums : (j : ℕ) → j < n → suc (j + far j) ≡ n
  sums j l = omega (arith, l)

  low_at : (j : ℕ) → j < length side → pos 0 ≤ℤ amount_at side j
  low_at j l =
      let inside : j < n = omega (arith, l, turned.count, long) in
      subst (λ (z : ℤ). pos 0 ≤ℤ z) (sym (amount_is j (far j) (sums j inside)))
      (before_keeps (λ z. pos 0 ≤ℤ z) (omega (arith, ints)) (λ k m. rise.shape.amounts k (pos 0, pos 0) (omega (arith, m, long))) (far j) (omega (arith, inside)))

  limits_at : (j : ℕ) → j < length side → IsStepInLimits (value_at side j, amount_at side j)
  limits_at j l =
      let inside : j < n = omega (arith, l, turned.count, long) in
      let value : unsigned_abs (value_at other (far j)) ≤ 10 ^ 9 = (rise.limits (far j) (pos 0, pos 0) (omega (arith, inside, long))).value in
      record {
        value = subst (λ (z : ℤ). unsigned_abs z ≤ 10 ^ 9) (sym (value_is j (far j) (sums j inside))) value;
        amount = subst (λ (z : ℤ). unsigned_abs z ≤ most_amount) (sym (amount_is j (far j) (sums j inside)))
            (before_keeps (λ z. unsigned_abs z ≤ most_amount) (omega arith) (λ k m. (rise.limits k (pos 0, pos 0) (omega (arith, m, long))).amount) (far j) (omega (arith, inside)));
      }

  pub is_fall : (behind : ℕ → List Row) → ((j k : ℕ) → suc (j + k) ≡ n → behind j ≡ rows k) → IsFall behind n side
  is_fall behind agree = record {
    shape = record {
      count = turned.count ∙ long;
      amounts = each_step (λ value amount. pos 0 ≤ℤ amount) side low_at;
      last = last_amount side (λ j e. amount_is j zero (omega (arith, e, turned.count, long)));
    };
    steps = λ j l. record {
      order = λ next. order_at j (n - 1 - suc j) (omega (arith, next, turned.count, long));
      tight = λ next some. tight_at j (n - 1 - suc j) (omega (arith, next, turned.count, long)) some;
      balance = subst (λ (r : List Row). IsInSpan r (value_at side j) (amount_before side j -ℤ amount_at side j)) (sym (agree j (far j) (sums j l))) (balance_at j (far j) (sums j l));
    };
    limits = each_step (λ value amount. IsStepInLimits (value, amount)) side limits_at;
  }

-- a step more
pub step_more : (f : ℤ × ℤ → ℤ) (old new : List (ℤ × ℤ)) (step : ℤ × ℤ) (k : ℕ) (F : ℕ → ℤ) → length old ≡ k → new ≡ old ++ step ∷ [] → ((j : ℕ) → j < k → f (get_or old j (pos 0, pos 0)) ≡ F j) → f step ≡ F k
    → (j : ℕ) → j < k + 1 → f (get_or new j (pos 0, pos 0)) ≡ F j
step_more f old new step k F long e each here =
    below_more (λ j. f (get_or new j (pos 0, pos 0)) ≡ F j) k
    (λ j l. ap f (ap (λ (xs : List (ℤ × ℤ)). get_or xs j (pos 0, pos 0)) e ∙ get_or_append_left old (step ∷ []) (pos 0, pos 0) j (omega (arith, l, long))) ∙ each j l)
    (ap f (ap (λ (xs : List (ℤ × ℤ)). get_or xs k (pos 0, pos 0)) e ∙ get_or_push old step (pos 0, pos 0) k long) ∙ here)
