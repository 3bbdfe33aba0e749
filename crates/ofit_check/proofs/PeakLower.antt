-- Sides that keep their rules bound from below what any values cost that go their way.
use Rattle.std.proofs.Common.{◌≡◌, ℕ, zero, suc, ◌-◌, ◌*◌, ◌^◌, ◌<◌, ◌≤◌, sym, ap, ◌∙◌, arith, List, []}
use Rattle.std.proofs.Math.Nat.{pow-zero}
use Rattle.std.proofs.lemmas.Int.{ints}
use Rattle.std.specs.Prelude.{ℤ, pos, negsuc, ◌+ℤ◌, ◌-ℤ◌, ◌*ℤ◌, ◌≤ℤ◌, ◌<ℤ◌}
use Rattle.ofit_num.specs.declared.row.Row.{Row}
use Rattle.ofit_num.specs.Unbounded.{no_bounds}
use Rattle.ofit_num.specs.Loss.{median}
use Rattle.ofit_num.specs.Law.{HasSupport}
use Rattle.ofit_num.specs.Fit.{sum_below}
use Rattle.ofit_num.proofs.Gap.{is_gap, gap-same, gap-sub, gap-mul, pos-gap}
use Rattle.ofit_num.proofs.Order.{mul_pos, zero_mul_ℤ, swap_ℤ}
use Rattle.ofit_num.proofs.Sums.{int_sum, int_sum-mono, int_sum-add, int_sum-pos, sum_below-scale}
use Rattle.ofit_num.proofs.TableScaling.{first_power}
use Rattle.ofit_num.proofs.TableSupport.{absolute-support}
use Rattle.ofit_sheet.specs.PeakVerdict.{IsInSpan}

-- products of differences
times_minus : (a b y : ℤ) → (a -ℤ b) *ℤ y ≡ a *ℤ y -ℤ b *ℤ y
times_minus a b y = rw (is_gap a, is_gap b, is_gap y) (simp (gap-mul, gap-sub) (gap-same _ _ _ _ (omega arith)))

minus_times : (a y z : ℤ) → a *ℤ (y -ℤ z) ≡ a *ℤ y -ℤ a *ℤ z
minus_times a y z = rw (is_gap a, is_gap y, is_gap z) (simp (gap-mul, gap-sub) (gap-same _ _ _ _ (omega arith)))

-- Abel's summation: what amounts carry along a chain whose values don't rise where an amount flows
module _ (c p y : ℕ → ℤ) (none : p 0 ≡ pos 0) (next : (j : ℕ) → p (suc j) ≡ c j) where
  pub carried : (n : ℕ) → ((j : ℕ) → j < n → (c j *ℤ (y j -ℤ y (suc j))) ≤ℤ pos 0) → int_sum (λ j. (c j -ℤ p j) *ℤ y j) (suc n) ≤ℤ (c n *ℤ y n)
  carried zero h =
      let first : p 0 *ℤ y 0 ≡ pos 0 = ap (λ (z : ℤ). z *ℤ y 0) none ∙ zero_mul_ℤ (y 0) in
      omega (arith, ints, times_minus (c 0) (p 0) (y 0))
  carried (suc n) h =
      let before : p (suc n) *ℤ y (suc n) ≡ c n *ℤ y (suc n) = ap (λ (z : ℤ). z *ℤ y (suc n)) (next n) in
      omega (arith, ints, carried n (λ j l. h j (omega (arith, l))), times_minus (c (suc n)) (p (suc n)) (y (suc n)), h n (omega arith), minus_times (c n) (y n) (y (suc n)))

-- an amount from 0 on, which flows only where y doesn't rise
pub falls_along : (c d : ℤ) → pos 0 ≤ℤ c → (pos 0 <ℤ c → d ≤ℤ pos 0) → (c *ℤ d) ≤ℤ pos 0
falls_along (pos zero) d l h = omega (arith, ints, zero_mul_ℤ d)
falls_along (pos (suc k)) d l h =
    let m : (d *ℤ pos (suc k)) ≤ℤ (pos 0 *ℤ pos (suc k)) = mul_pos d (pos 0) (suc k) (h (omega (arith, ints))) in
    omega (arith, ints, swap_ℤ (pos (suc k)) d, zero_mul_ℤ (pos (suc k)))
falls_along (negsuc k) d l h = absurd (omega (arith, ints))

-- the groups of a side, and other values of them over the denominator q
module _ (rows : ℕ → List Row) (v b u : ℕ → ℤ) (q : ℕ) (some : 0 < q) where
  unfoldable side_before : ℕ → ℕ
  side_before j = median.cost (rows j) (v j) 1 * q

  unfoldable side_after : ℕ → ℕ
  side_after j = median.cost (rows j) (u j) q

  abbrev law : (j : ℕ) → HasSupport median (record { count = suc j; rows = rows; pairs = []; bounds = no_bounds })
  law j = absolute-support (record { above = 1; below = 1 }) (record { count = suc j; rows = rows; pairs = []; bounds = no_bounds })

  abbrev gain : ℕ → ℤ
  gain j = u j -ℤ v j *ℤ pos q

  one_scale : (z : ℤ) → z *ℤ pos 1 ≡ z
  one_scale z = rw (is_gap z) (simp (pos-gap, gap-mul) (gap-same _ _ _ _ (omega arith)))

  supported : (j : ℕ) → IsInSpan (rows j) (v j) (b j) → pos (side_before j) ≤ℤ (pos (side_after j) +ℤ b j *ℤ gain j)
  unfolding side_before side_after
  supported j h =
      let s = (law j).support j (omega arith) (v j) (u j) 1 q (omega arith) some (b j) h.least h.greatest in
      let powers : median.cost (rows j) (v j) 1 * q ^ 1 ≡ median.cost (rows j) (v j) 1 * q = ap (λ (k : ℕ). median.cost (rows j) (v j) 1 * k) (sym (first_power q)) in
      let whole : median.cost (rows j) (u j) q * 1 ^ 1 ≡ median.cost (rows j) (u j) q = omega arith in
      let none : q ^ (1 - 1) ≡ 1 = pow-zero q in
      let factor : 1 * q ^ (1 - 1) ≡ 1 = omega (arith, none) in
      let far : u j *ℤ pos 1 -ℤ v j *ℤ pos q ≡ gain j = ap (λ (z : ℤ). z -ℤ v j *ℤ pos q) (one_scale (u j)) in
      let carried_by : pos (1 * q ^ (1 - 1)) *ℤ (b j *ℤ (u j *ℤ pos 1 -ℤ v j *ℤ pos q)) ≡ b j *ℤ gain j =
      ap (λ (k : ℕ). pos k *ℤ (b j *ℤ (u j *ℤ pos 1 -ℤ v j *ℤ pos q))) factor ∙ ap (λ (z : ℤ). pos 1 *ℤ (b j *ℤ z)) far ∙ swap_ℤ (pos 1) (b j *ℤ gain j) ∙ one_scale (b j *ℤ gain j) in
      omega (arith, ints)

  all_supported : (n : ℕ) → ((j : ℕ) → j < n → IsInSpan (rows j) (v j) (b j)) → pos (sum_below side_before n) ≤ℤ (pos (sum_below side_after n) +ℤ int_sum (λ j. b j *ℤ gain j) n)
  all_supported n h =
      let each : int_sum (λ j. pos (side_before j)) n ≤ℤ int_sum (λ j. pos (side_after j) +ℤ b j *ℤ gain j) n = int_sum-mono _ _ n (λ j l. supported j (h j l)) in
      omega (arith, ints, int_sum-pos side_before n, int_sum-pos side_after n, int_sum-add (λ j. pos (side_after j)) (λ j. b j *ℤ gain j) n)

  -- where nothing is gained along the side, the others cost no less
  pub bounded : (n : ℕ) → ((j : ℕ) → j < n → IsInSpan (rows j) (v j) (b j)) → int_sum (λ j. b j *ℤ gain j) n ≤ℤ pos 0 → sum_below (λ j. median.cost (rows j) (v j) 1) n * q ≤ sum_below (λ j. median.cost (rows j) (u j) q) n
  unfolding side_before side_after
  bounded n h l =
      let all : pos (sum_below (λ j. median.cost (rows j) (v j) 1 * q) n) ≤ℤ (pos (sum_below (λ j. median.cost (rows j) (u j) q) n) +ℤ int_sum (λ j. b j *ℤ gain j) n) = all_supported n h in
      omega (arith, ints, sum_below-scale (λ j. median.cost (rows j) (v j) 1) n q)
