-- The sides on both ends of a split make a unimodal trial that costs what they do.
use Rattle.std.proofs.Common.{◌≡◌, ◌∙◌, ℕ, suc, ◌+◌, ◌-◌, ◌<◌, ◌≤◌, sym, ap, subst, arith, List, []}
use Rattle.std.proofs.lemmas.Bool.Decides.{nat_tests}
use Rattle.std.specs.Prelude.{ℤ, ◌≤ℤ◌, slice_index_or, nat_lt, if◌then◌else◌}
use Rattle.ofit_num.specs.Fit.{sum_below, trial_cost}
use Rattle.ofit_num.specs.Loss.{median}
use Rattle.ofit_num.specs.Problem.{Problem}
use Rattle.ofit_num.specs.Trial.{Trial}
use Rattle.ofit_num.proofs.Sums.{sum_below-same}
use Rattle.ofit_sheet.proofs.Splits.{sum_parts}
use Rattle.ofit_sheet.specs.PeakVerdict.{value_at}
use Rattle.ofit_sides.specs.Sides.{AreRises, AreFalls}
use Rattle.ofit_unimodal.specs.Costs.{rise_cost, fall_cost, split_cost}
use Rattle.ofit_unimodal.specs.Splits.{HasPeakAt}
use Rattle.ofit_unimodal.proofs.Joined.{joined_peak}

first_part : (g i : ℕ) (x y : ℤ) → g < i → (if nat_lt g i then x else y) ≡ x
first_part g i x y l = grind (arith, nat_tests)

last_part : (g i : ℕ) (x y : ℤ) → i ≤ g → (if nat_lt g i then x else y) ≡ y
last_part g i x y l = grind (arith, nat_tests)

module _ (s : Problem) (rises falls : List (List (ℤ × ℤ))) (up : AreRises s rises) (down : AreFalls s falls) (i : ℕ) (l : i ≤ s.count) where
  abbrev rise : List (ℤ × ℤ)
  rise = slice_index_or rises (i - 1) []

  abbrev fall : List (ℤ × ℤ)
  fall = slice_index_or falls i []

  abbrev pub joined : Trial
  joined = record { value = λ g. if nat_lt g i then value_at rise g else value_at fall (g - i); scale = 1 }

  low : (g : ℕ) → g < i → joined.value g ≡ value_at rise g
  low g b = first_part g i (value_at rise g) (value_at fall (g - i)) b

  high : (g : ℕ) → i ≤ g → joined.value g ≡ value_at fall (g - i)
  high g b = last_part g i (value_at rise g) (value_at fall (g - i)) b

  high_at : (j : ℕ) → joined.value (i + j) ≡ value_at fall j
  high_at j = high (i + j) (omega arith) ∙ ap (value_at fall) (let k : i + j - i ≡ j = omega arith in k)

  ordered : (a b x y : ℤ) → a ≡ x → b ≡ y → x ≤ℤ y → a ≤ℤ b
  ordered a b x y e f h = subst (λ (z : ℤ). z ≤ℤ b) (sym e) (subst (λ (z : ℤ). x ≤ℤ z) (sym f) h)

  rising : (g : ℕ) → suc g < i → joined.value g ≤ℤ joined.value (suc g)
  rising g b =
      let side = up.each i (omega (arith, b)) l in
      ordered _ _ (value_at rise g) (value_at rise (suc g)) (low g (omega (arith, b))) (low (suc g) b) ((side.steps g (omega (arith, b))).order (omega (arith, b, side.shape.count)))

  falling : (g : ℕ) → i ≤ g → suc g < s.count → joined.value (suc g) ≤ℤ joined.value g
  falling g b m =
      let side = down.each i (omega (arith, b, m)) in
      let next : suc g - i ≡ suc (g - i) = omega (arith, b) in
      ordered _ _ (value_at fall (suc (g - i))) (value_at fall (g - i)) (high (suc g) (omega (arith, b)) ∙ ap (value_at fall) next) (high g b)
      ((side.steps (g - i) (omega (arith, b, m))).order (omega (arith, b, m, side.shape.count)))

  pub joined_cost : trial_cost median s joined ≡ split_cost s rises falls i
  joined_cost =
      let parts = sum_parts (λ g. median.cost (s.rows g) (joined.value g) 1) i (s.count - i) s.count (omega (arith, l)) in
      let first : sum_below (λ g. median.cost (s.rows g) (joined.value g) 1) i ≡ rise_cost s rises i =
      sum_below-same (λ g. median.cost (s.rows g) (joined.value g) 1) (λ j. median.cost (s.rows j) (value_at rise j) 1) i (λ g b. ap (λ (z : ℤ). median.cost (s.rows g) z 1) (low g b)) in
      let last : sum_below (λ j. median.cost (s.rows (i + j)) (joined.value (i + j)) 1) (s.count - i) ≡ fall_cost s falls i =
      sum_below-same (λ j. median.cost (s.rows (i + j)) (joined.value (i + j)) 1) (λ j. median.cost (s.rows (i + j)) (value_at fall j) 1) (s.count - i) (λ j b. ap (λ (z : ℤ). median.cost (s.rows (i + j)) z 1) (high_at j)) in
      omega (arith, parts, first, last)

  -- it has a peak at the split
  pub joined_has_peak : 0 < s.count → HasPeakAt s.count i joined
  joined_has_peak some = joined_peak s.count joined some (omega arith) i l rising falling
