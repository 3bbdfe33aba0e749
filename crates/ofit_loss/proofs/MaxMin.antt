-- Best values under squares without bounds are the max-min of the means.
use Rattle.std.proofs.Common.{◌≡◌, ℕ, zero, suc, ◌+◌, ◌<◌, refl, ap, ◌∙◌, arith, Bool, true, false, cond}
use Rattle.std.proofs.lemmas.Int.{ints}
use Rattle.std.specs.Prelude.{ℤ, pos, ◌+ℤ◌, ◌-ℤ◌, ◌*ℤ◌, ◌≤ℤ◌, List, slice_get, Some, None, int_lt, not}
use Rattle.ofit_num.specs.Clipped.{HasConstantBounds}
use Rattle.ofit_num.specs.Fit.{BestValues, sum_below}
use Rattle.ofit_num.specs.Fraction.{Fraction, AtMost}
use Rattle.ofit_num.specs.RowTotals.{total_weight}
use Rattle.ofit_num.specs.Loss.{squares}
use Rattle.ofit_num.specs.MaxMin.{IsUpper, IsLower, common, mean_of_common, MaxMin}
use Rattle.ofit_num.specs.Problem.{Problem, Bounds}
use Rattle.ofit_num.specs.Sets.{set_sum}
use Rattle.ofit_num.specs.Settled.{IsSettled}
use Rattle.ofit_num.specs.Span.{is_at}
use Rattle.ofit_num.specs.Trial.{scale_of, value_of, trial_of}
use Rattle.ofit_num.proofs.ClippedValues.{test_less, test_least}
use Rattle.ofit_num.proofs.Falls.{set_sum-members}
use Rattle.ofit_num.proofs.Gap.{is_gap, gap-same, gap-add, gap-mul, pos-gap}
use Rattle.ofit_num.proofs.Order.{mul_pos, distr_left, mul_zero_ℤ, swap_ℤ, equal_at_most, equal_at_least}
use Rattle.ofit_num.proofs.Pieces.{and_both, both_and}
use Rattle.ofit_num.proofs.TableSettled.{squared_best_settled}
use Rattle.ofit_num.proofs.Trials.{value_of-den}
use Rattle.ofit_loss.specs.Squares.{weighted_sum}
use Rattle.ofit_loss.proofs.SquaresLeast.{balance}

distr_weight : (p : ℤ) (a b : ℕ) → p *ℤ pos (a + b) ≡ p *ℤ pos a +ℤ p *ℤ pos b
distr_weight p a b = rw (is_gap p) (simp (pos-gap, gap-mul, gap-add) (gap-same _ _ _ _ (omega arith)))

one_more : (b : Bool) (p x y : ℤ) (q v w : ℕ) → (pos q *ℤ x -ℤ p *ℤ pos v) +ℤ cond b (pos q *ℤ y -ℤ p *ℤ pos w) (pos 0) ≡ pos q *ℤ (x +ℤ cond b y (pos 0)) -ℤ p *ℤ pos (v + cond b w 0)
one_more true p x y q v w = omega (arith, ints, distr_left (pos q) x y, distr_weight p v w)
one_more false p x y q v w = omega (arith, ints, distr_left (pos q) x (pos 0), mul_zero_ℤ (pos q), distr_weight p v 0, mul_zero_ℤ p)

-- the balances of a set at one value, by the set's sum and weight
at_one_value : (set : ℕ → Bool) (sum : ℕ → ℤ) (weight : ℕ → ℕ) (p : ℤ) (q n : ℕ)
    → set_sum set (λ g. pos q *ℤ sum g -ℤ p *ℤ pos (weight g)) n ≡ pos q *ℤ set_sum set sum n -ℤ p *ℤ pos (sum_below (λ g. cond (set g) (weight g) 0) n)
at_one_value set sum weight p q zero = omega (arith, ints, mul_zero_ℤ (pos q), mul_zero_ℤ p)
at_one_value set sum weight p q (suc n) =
    ap (λ (z : ℤ). z +ℤ cond (set n) (pos q *ℤ sum n -ℤ p *ℤ pos (weight n)) (pos 0)) (at_one_value set sum weight p q n)
    ∙ one_more (set n) p (set_sum set sum n) (sum n) q (sum_below (λ g. cond (set g) (weight g) 0) n) (weight n)

not_false : (b : Bool) → not b ≡ true → b ≡ false
not_false true e = cc
not_false false e = refl

false_not : (b : Bool) → b ≡ false → not b ≡ true
false_not b e = ap not e

not_less : (x y : ℤ) → y ≤ℤ x → not (int_lt x y) ≡ true
not_less x y l = go (int_lt x y) refl where
  go : (b : Bool) → int_lt x y ≡ b → not (int_lt x y) ≡ true
  go true e = absurd (omega (arith, ints, l, test_less x y e))
  go false e = false_not (int_lt x y) e

as_great : (x y : ℤ) → x ≡ y → y ≤ℤ x
as_great x y e = omega (arith, ints, e)

module _ (s : Problem) (fs : List Fraction) (best : BestValues squares s fs) (free : HasConstantBounds s None None) where
  abbrev value : ℕ → ℤ
  value g = value_of fs g

  abbrev scale : ℕ
  scale = scale_of fs

  abbrev sum : ℕ → ℤ
  sum g = weighted_sum (s.rows g)

  abbrev weight : ℕ → ℕ
  weight g = total_weight (s.rows g)

  settled : IsSettled squares s (trial_of fs)
  settled = squared_best_settled (record { above = 1; below = 1 }) s (trial_of fs) best.best

  -- a set of values at least p that can fall together has at least p as its mean, over the scale
  at_least : (set : ℕ → Bool) (p : ℤ) → ((g : ℕ) → g < s.count → set g ≡ true → p ≤ℤ value g)
      → pos 0 ≤ℤ set_sum set (λ g. squares.greatest (s.rows g) (value g) scale) s.count → (p *ℤ pos (sum_below (λ g. cond (set g) (weight g) 0) s.count)) ≤ℤ (set_sum set sum s.count *ℤ pos scale)
  at_least set p high falls = omega (
    arith,
    ints,
    falls,
    set_sum-members set (λ g. squares.greatest (s.rows g) (value g) scale) (λ g. pos scale *ℤ sum g -ℤ p *ℤ pos (weight g)) s.count (λ g l has. omega (arith, ints, balance (s.rows g) (value g) scale, mul_pos p (value g) (weight g) (high g l has))),
    at_one_value set sum weight p scale s.count,
    swap_ℤ (pos scale) (set_sum set sum s.count),
  )

  at_most : (set : ℕ → Bool) (p : ℤ) → ((g : ℕ) → g < s.count → set g ≡ true → value g ≤ℤ p)
      → set_sum set (λ g. squares.least (s.rows g) (value g) scale) s.count ≤ℤ pos 0 → (set_sum set sum s.count *ℤ pos scale) ≤ℤ (p *ℤ pos (sum_below (λ g. cond (set g) (weight g) 0) s.count))
  at_most set p low rises = omega (
    arith,
    ints,
    rises,
    set_sum-members set (λ g. pos scale *ℤ sum g -ℤ p *ℤ pos (weight g)) (λ g. squares.least (s.rows g) (value g) scale) s.count (λ g l has. omega (arith, ints, balance (s.rows g) (value g) scale, mul_pos (value g) p (weight g) (low g l has))),
    at_one_value set sum weight p scale s.count,
    swap_ℤ (pos scale) (set_sum set sum s.count),
  )

  module _ (g : ℕ) (v : Fraction) (at : slice_get fs g ≡ Some v) where
    -- the groups of at least this value, and those of at most it
    abbrev above : ℕ → Bool
    above h = not (int_lt (value h) (value g))

    abbrev below : ℕ → Bool
    below h = not (int_lt (value g) (value h))

    is_above : (h : ℕ) → above h ≡ true → value g ≤ℤ value h
    is_above h e = test_least (value h) (value g) (not_false (int_lt (value h) (value g)) e)

    is_below : (h : ℕ) → below h ≡ true → value h ≤ℤ value g
    is_below h e = test_least (value g) (value h) (not_false (int_lt (value g) (value h)) e)

    above_up : (h j : ℕ) → value h ≤ℤ value j → above h ≡ true → above j ≡ true
    above_up h j l e = not_less (value j) (value g) (omega (arith, ints, l, is_above h e))

    below_down : (h j : ℕ) → value h ≤ℤ value j → below j ≡ true → below h ≡ true
    below_down h j l e = not_less (value g) (value h) (omega (arith, ints, l, is_below j e))

    reaches : (lower : ℕ → Bool) → IsLower s lower → AtMost v (mean_of_common s above lower)
    reaches lower closed = equal_at_most (value g) v.num (set_sum (common above lower) sum s.count) scale v.den (sum_below (λ h. cond (common above lower h) (weight h) 0) s.count) best.best.obeys.scale (value_of-den fs g v at)
        (at_least (common above lower) (value g) (λ h l has. is_above h (and_both (above h) (lower h) has).0)
        (settled.lowered (common above lower)
        (λ k d l same has. both_and _ _ (above_up _ _ (as_great _ _ same) (and_both _ _ has).0) (closed k d l (and_both _ _ has).1))
        (λ h l has. ap (λ (b : Bounds). is_at b.lo (value h) scale) (free.each h l))))

    bounded : (upper : ℕ → Bool) → IsUpper s upper → AtMost (mean_of_common s upper below) v
    bounded upper closed = equal_at_least (value g) v.num (set_sum (common upper below) sum s.count) scale v.den (sum_below (λ h. cond (common upper below h) (weight h) 0) s.count) best.best.obeys.scale (value_of-den fs g v at)
        (at_most (common upper below) (value g) (λ h l has. is_below h (and_both (upper h) (below h) has).1)
        (settled.raised (common upper below)
        (λ k d l same has. both_and _ _ (closed k d l (and_both _ _ has).0) (below_down _ _ (as_great _ _ same) (and_both _ _ has).1))
        (λ h l has. ap (λ (b : Bounds). is_at b.hi (value h) scale) (free.each h l))))

    pub best_max_min : MaxMin s g v
    best_max_min = record {
      reached = (above, λ k d l has. above_up _ _ (best.best.obeys.pairs k d l) has, not_less (value g) (value g) (omega (arith, ints)), λ lower closed has. reaches lower closed);
      greatest = λ upper closed has. (below, λ k d l has. below_down _ _ (best.best.obeys.pairs k d l) has, not_less (value g) (value g) (omega (arith, ints)), bounded upper closed);
    }
