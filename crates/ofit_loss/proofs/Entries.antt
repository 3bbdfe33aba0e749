-- The spans of the table's losses by weights and weighted sums.
use Rattle.std.proofs.Common.{◌≡◌, ℕ, ◌+◌, List, [], ◌∷◌, refl, arith}
use Rattle.std.proofs.lemmas.Int.{ints}
use Rattle.std.proofs.lemmas.List.Sums.{sum_by-cons}
use Rattle.std.specs.Cmp.{int_ranks}
use Rattle.std.specs.Ordering.{int_cmp, is_lt, is_eq, is_gt, MatchOrdering}
use Rattle.std.specs.declared.cmp.Ordering.{Ordering}
use Rattle.std.specs.declared.cmp.Ordering.TheVariants.{Less, Equal, Greater}
use Rattle.std.specs.Prelude.{cond, ℤ, pos, ◌-ℤ◌, ◌*ℤ◌, ◌<ℤ◌}
use Rattle.ofit_num.specs.declared.row.Row.{Row}
use Rattle.ofit_num.specs.Loss.{absolute_least, absolute_greatest, median}
use Rattle.ofit_loss.specs.Median.{weight_above, weight_at, weight_below}
use Rattle.ofit_loss.proofs.AbsoluteEnds.{once, least_above, least_below, greatest_above, greatest_below}

row_least : (w : ℕ) (z p : ℤ) (o : Ordering) → MatchOrdering o (z <ℤ p) (z ≡ p) (p <ℤ z)
    → absolute_least once w (z -ℤ p) ≡ pos (cond (is_gt o) w 0) -ℤ pos (cond (is_lt o) w 0) -ℤ pos (cond (is_eq o) w 0)
row_least w z p Less h = omega (arith, ints, least_below w (z -ℤ p) (omega (arith, ints, h)))
row_least w z p Equal h = omega (arith, ints, least_below w (z -ℤ p) (omega (arith, ints, h)))
row_least w z p Greater h = omega (arith, ints, least_above w (z -ℤ p) (omega (arith, ints, h)))

row_greatest : (w : ℕ) (z p : ℤ) (o : Ordering) → MatchOrdering o (z <ℤ p) (z ≡ p) (p <ℤ z)
    → absolute_greatest once w (z -ℤ p) ≡ pos (cond (is_gt o) w 0 + cond (is_eq o) w 0) -ℤ pos (cond (is_lt o) w 0)
row_greatest w z p Less h = omega (arith, ints, greatest_below w (z -ℤ p) (omega (arith, ints, h)))
row_greatest w z p Equal h = omega (arith, ints, greatest_above w (z -ℤ p) (omega (arith, ints, h)))
row_greatest w z p Greater h = omega (arith, ints, greatest_above w (z -ℤ p) (omega (arith, ints, h)))

pub median_least : (rows : List Row) (p : ℤ) (q : ℕ) → median.least rows p q ≡ pos (weight_above rows p q) -ℤ pos (weight_below rows p q) -ℤ pos (weight_at rows p q)
median_least [] p q = refl
median_least (r ∷ rows) p q = omega (
  arith,
  ints,
  row_least r.weight (pos q *ℤ r.value) p (int_cmp (pos q *ℤ r.value) p) (int_ranks (pos q *ℤ r.value) p),
  median_least rows p q,
  sum_by-cons (λ (r : Row). cond (is_gt (int_cmp (pos q *ℤ r.value) p)) r.weight 0) r rows,
  sum_by-cons (λ (r : Row). cond (is_eq (int_cmp (pos q *ℤ r.value) p)) r.weight 0) r rows,
  sum_by-cons (λ (r : Row). cond (is_lt (int_cmp (pos q *ℤ r.value) p)) r.weight 0) r rows,
)

pub median_greatest : (rows : List Row) (p : ℤ) (q : ℕ) → median.greatest rows p q ≡ pos (weight_above rows p q + weight_at rows p q) -ℤ pos (weight_below rows p q)
median_greatest [] p q = refl
median_greatest (r ∷ rows) p q = omega (
  arith,
  ints,
  row_greatest r.weight (pos q *ℤ r.value) p (int_cmp (pos q *ℤ r.value) p) (int_ranks (pos q *ℤ r.value) p),
  median_greatest rows p q,
  sum_by-cons (λ (r : Row). cond (is_gt (int_cmp (pos q *ℤ r.value) p)) r.weight 0) r rows,
  sum_by-cons (λ (r : Row). cond (is_eq (int_cmp (pos q *ℤ r.value) p)) r.weight 0) r rows,
  sum_by-cons (λ (r : Row). cond (is_lt (int_cmp (pos q *ℤ r.value) p)) r.weight 0) r rows,
)
