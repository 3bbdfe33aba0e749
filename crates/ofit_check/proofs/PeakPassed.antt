-- The values of a peaked sheet that passes cost least among all unimodal ones.
use Rattle.std.proofs.Common.{◌≡◌, ℕ, zero, suc, ◌+◌, ◌-◌, ◌*◌, ◌<◌, ◌≤◌, inl, inr, refl, sym, ap, subst, ◌∙◌, arith, List, length, get_or, Option, Some, None}
use Rattle.std.proofs.Math.Nat.{mul-le-mul_right}
use Rattle.std.proofs.lemmas.Bool.{cases_lt}
use Rattle.std.proofs.lemmas.Int.{ints}
use Rattle.std.proofs.lemmas.Option.{slice_get-get_or}
use Rattle.std.specs.Prelude.{ℤ, pos, ◌-ℤ◌, ◌*ℤ◌, ◌≤ℤ◌, All, IfSome, slice_get}
use Rattle.ofit_num.specs.declared.row.Row.{Row}
use Rattle.ofit_num.specs.Problem.{Problem}
use Rattle.ofit_num.specs.Loss.{median}
use Rattle.ofit_num.specs.Trial.{Trial}
use Rattle.ofit_num.specs.Fit.{sum_below, trial_cost}
use Rattle.ofit_num.proofs.Gap.{is_gap, gap-same, gap-sub, gap-mul}
use Rattle.ofit_num.proofs.Order.{zero_mul_ℤ}
use Rattle.ofit_num.proofs.Sums.{int_sum-same}
use Rattle.ofit_num.proofs.TableScaling.{first_power}
use Rattle.ofit_sheet.proofs.Splits.{sum_parts}
use Rattle.ofit_sheet.specs.Peaked.{Peaked, IsShaped, IsSide, rise_at, fall_at}
use Rattle.ofit_sheet.specs.Unimodal.{IsUnimodal, whole_trial}
use Rattle.ofit_sheet.specs.PeakVerdict.{value_at, amount_at, amount_before, IsRiseStep, IsFallStep, rise_cost, fall_cost, PeakPasses}
use Rattle.ofit_check.specs.Peak.{IsBestOfPeaks}
use Rattle.ofit_check.proofs.PeakLower.{carried, falls_along, bounded}

amount_from_zero : (side : List (ℤ × ℤ)) (j : ℕ) → All (λ step. pos 0 ≤ℤ step.1) side → j < length side → pos 0 ≤ℤ amount_at side j
amount_from_zero side j h l = h j (pos 0, pos 0) l

last_amount : (side : List (ℤ × ℤ)) (n : ℕ) → IsSide (suc n) side → amount_at side n ≡ pos 0
last_amount side n s =
    let at : length side - 1 ≡ n = omega (arith, s.count) in
    let there : slice_get side (length side - 1) ≡ Some (get_or side n (pos 0, pos 0)) = ap (slice_get side) at ∙ slice_get-get_or side n (pos 0, pos 0) (omega (arith, s.count)) in
    subst (λ (o : Option (ℤ × ℤ)). IfSome o (λ step. step.1 ≡ pos 0)) there s.last

-- y doesn't rise from j on where the values are equal and u goes the other way
same_gain : (v w x y : ℤ) (q : ℕ) → v ≡ w → x ≤ℤ y → ((x -ℤ v *ℤ pos q) -ℤ (y -ℤ w *ℤ pos q)) ≤ℤ pos 0
same_gain v w x y q e l = omega (arith, ints, ap (λ (z : ℤ). z *ℤ pos q) e)

other_gain : (v w x y : ℤ) (q : ℕ) → v ≡ w → y ≤ℤ x → ((v *ℤ pos q -ℤ x) -ℤ (w *ℤ pos q -ℤ y)) ≤ℤ pos 0
other_gain v w x y q e l = omega (arith, ints, ap (λ (z : ℤ). z *ℤ pos q) e)

turned : (a b x y : ℤ) → (a -ℤ b) *ℤ (x -ℤ y) ≡ (b -ℤ a) *ℤ (y -ℤ x)
turned a b x y = rw (is_gap a, is_gap b, is_gap x, is_gap y) (simp (gap-mul, gap-sub) (gap-same _ _ _ _ (omega arith)))

nothing_left : (a b y : ℤ) → b ≡ pos 0 → a ≤ℤ (b *ℤ y) → a ≤ℤ pos 0
nothing_left a b y e l = omega (arith, ints, ap (λ (z : ℤ). z *ℤ y) e, zero_mul_ℤ y)

module _ (rows : ℕ → List Row) (u : ℕ → ℤ) (q : ℕ) (some : 0 < q) (n : ℕ) (side : List (ℤ × ℤ)) (s : IsSide (suc n) side) where
  abbrev gain : ℕ → ℤ
  gain j = u j -ℤ value_at side j *ℤ pos q

  abbrev loss : ℕ → ℤ
  loss j = value_at side j *ℤ pos q -ℤ u j

  pub rise_bounded : ((j : ℕ) → j < suc n → IsRiseStep (rows j) side j) → ((j : ℕ) → suc j < suc n → u j ≤ℤ u (suc j)) → sum_below (λ j. median.cost (rows j) (value_at side j) 1) (suc n) * q ≤ sum_below (λ j. median.cost (rows j) (u j) q) (suc n)
  rise_bounded keeps rises =
      bounded rows (value_at side) (λ j. amount_at side j -ℤ amount_before side j) u q some (suc n) (λ j l. (keeps j l).balance)
      (nothing_left _ (amount_at side n) (gain n) (last_amount side n s)
      (carried (amount_at side) (amount_before side) gain refl (λ j. refl) n
      (λ j l. falls_along (amount_at side j) (gain j -ℤ gain (suc j)) (amount_from_zero side j s.amounts (omega (arith, l, s.count)))
      (λ flows. same_gain (value_at side j) (value_at side (suc j)) (u j) (u (suc j)) q ((keeps j (omega (arith, l))).tight (omega (arith, l, s.count)) flows) (rises j (omega (arith, l)))))))

  pub fall_bounded : ((j : ℕ) → j < suc n → IsFallStep (rows j) side j) → ((j : ℕ) → suc j < suc n → u (suc j) ≤ℤ u j) → sum_below (λ j. median.cost (rows j) (value_at side j) 1) (suc n) * q ≤ sum_below (λ j. median.cost (rows j) (u j) q) (suc n)
  fall_bounded keeps falls =
      bounded rows (value_at side) (λ j. amount_before side j -ℤ amount_at side j) u q some (suc n) (λ j l. (keeps j l).balance)
      (subst (λ (z : ℤ). z ≤ℤ pos 0) (sym (int_sum-same (λ j. (amount_before side j -ℤ amount_at side j) *ℤ gain j) (λ j. (amount_at side j -ℤ amount_before side j) *ℤ loss j) (suc n) (λ j l. turned (amount_before side j) (amount_at side j) (u j) (value_at side j *ℤ pos q))))
      (nothing_left _ (amount_at side n) (loss n) (last_amount side n s)
      (carried (amount_at side) (amount_before side) loss refl (λ j. refl) n
      (λ j l. falls_along (amount_at side j) (loss j -ℤ loss (suc j)) (amount_from_zero side j s.amounts (omega (arith, l, s.count)))
      (λ flows. other_gain (value_at side j) (value_at side (suc j)) (u j) (u (suc j)) q ((keeps j (omega (arith, l))).tight (omega (arith, l, s.count)) flows) (falls j (omega (arith, l))))))))

module _ (s : Problem) (own : ℕ) (x : Peaked) (shaped : IsShaped s.count x) (pass : PeakPasses s own x) where
  module _ (u : Trial) (k : ℕ) (uni : IsUnimodal s.count k u) where
    rise_least : (i : ℕ) → i ≤ s.count → i ≤ suc k → rise_cost s x i * u.scale ≤ sum_below (λ j. median.cost (s.rows j) (u.value j) u.scale) i
    rise_least zero l m = omega arith
    rise_least (suc n) l m =
        rise_bounded s.rows u.value u.scale uni.scale n (rise_at x (suc n)) (shaped.rise (suc n) (omega arith) l) (pass.sides.rises.rises (suc n) (omega arith) l) (λ j p. uni.rises j (omega (arith, p, l)) (omega (arith, p, m)))

    fall_from : (i m : ℕ) → m ≡ s.count - i → i ≤ s.count → ((g : ℕ) → i ≤ g → suc g < s.count → k ≤ g) → sum_below (λ j. median.cost (s.rows (i + j)) (value_at (fall_at x i) j) 1) m * u.scale ≤ sum_below (λ j. median.cost (s.rows (i + j)) (u.value (i + j)) u.scale) m
    fall_from i zero e l o = omega arith
    fall_from i (suc n) e l o =
        let inside : i < s.count = omega (arith, e) in
        let side = subst (λ (m : ℕ). IsSide m (fall_at x i)) (sym e) (shaped.fall i inside) in
        fall_bounded (λ j. s.rows (i + j)) (λ j. u.value (i + j)) u.scale uni.scale n (fall_at x i) side (λ j p. pass.sides.falls i inside j (omega (arith, p, e)))
        (λ j p.
        let more : i + suc j ≡ suc (i + j) = omega arith in
        subst (λ (g : ℕ). u.value g ≤ℤ u.value (i + j)) (sym more) (uni.falls (i + j) (omega (arith, p, e)) (o (i + j) (omega arith) (omega (arith, p, e)))))

    split : (i : ℕ) → i ≤ s.count → i ≤ suc k → ((g : ℕ) → i ≤ g → suc g < s.count → k ≤ g) → x.cost * u.scale ≤ trial_cost median s u
    split i l m o =
        let reached : x.cost ≤ rise_cost s x i + fall_cost s x i = pass.least i (omega (arith, l)) in
        let parts = sum_parts (λ g. median.cost (s.rows g) (u.value g) u.scale) i (s.count - i) s.count (omega (arith, l)) in
        let low = rise_least i l m in
        let high = fall_from i (s.count - i) refl l o in
        let both : x.cost * u.scale ≤ (rise_cost s x i + fall_cost s x i) * u.scale = mul-le-mul_right u.scale reached in
        omega (arith, both, low, high, parts)

    least_cost : x.cost * u.scale ≤ trial_cost median s u
    least_cost = elim (cases_lt k s.count) [
      | inl less ↦ split (suc k) (omega (arith, less)) (omega arith) (λ g a b. omega (arith, a))
      | inr more ↦ split s.count (omega arith) (omega (arith, more)) (λ g a b. absurd (omega (arith, a, b)))
    ]

  shape_so : (peak : Option ℕ) → x.peak ≡ peak → IfSome peak (λ k. IsUnimodal s.count k (whole_trial x.values))
  shape_so None e = tt
  shape_so (Some k) e =
      let at : (g : ℕ) → g < s.count - 1 → (g < k → (whole_trial x.values).value g ≤ℤ (whole_trial x.values).value (suc g)) × (k ≤ g → (whole_trial x.values).value (suc g) ≤ℤ (whole_trial x.values).value g) =
      λ g l. subst (λ (o : Option ℕ). IfSome o (λ peak. (g < peak → (whole_trial x.values).value g ≤ℤ (whole_trial x.values).value (suc g)) × (peak ≤ g → (whole_trial x.values).value (suc g) ≤ℤ (whole_trial x.values).value g))) e (pass.sides.rises.costed.peaked.shape g l) in
      record { scale = omega arith; rises = λ g l b. (at g (omega (arith, l))).0 b; falls = λ g l b. (at g (omega (arith, l))).1 b }

  pub passed_is_best : IsBestOfPeaks s x
  passed_is_best = record {
    shape = shape_so x.peak refl;
    cheapest = λ u k uni. record {
      costs = omega (
        arith,
        least_cost u k uni,
        pass.sides.rises.costed.cost,
        ap (λ (n : ℕ). trial_cost median s (whole_trial x.values) * n) (first_power u.scale),
        ap (λ (n : ℕ). n * u.scale) pass.sides.rises.costed.cost,
      );
    };
  }
