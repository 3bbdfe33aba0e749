-- The least minimiser under the median is the least value of a row that has half of the weight at most there.
use Rattle.std.proofs.Common.{◌≡◌, ℕ, ◌+◌, ◌*◌, ◌≤◌, ◌<◌, List, [], ◌∷◌, get_or, refl, sym, ap, ◌∙◌, subst, arith, add-one}
use Prim.Native.Nat.{◌∣◌}
use Rattle.std.proofs.lemmas.Int.{ints, by_lt_z, unsigned_abs-mul}
use Rattle.std.proofs.lemmas.Cmp.{int_ranked}
use Rattle.std.proofs.lemmas.Nat.Gcd.{dvd_refl, dvd_antisymm}
use Rattle.std.proofs.Math.Nat.{one-dvd, dvd-mul_right}
use Rattle.std.proofs.lemmas.List.Sums.{sum_by-cons, sum_by-le-sum_by}
use Rattle.std.specs.Prelude.{ℤ, pos, false, cond, Any, ◌*ℤ◌, ◌≤ℤ◌, ◌<ℤ◌, unsigned_abs}
use Rattle.std.specs.Ordering.{int_cmp, is_lt, is_eq, is_gt, MatchOrdering}
use Rattle.std.specs.declared.cmp.Ordering.{Ordering}
use Rattle.std.specs.declared.cmp.Ordering.TheVariants.{Less, Equal, Greater}
use Rattle.ofit_num.specs.declared.row.Row.{Row}
use Rattle.ofit_num.specs.Fraction.{Fraction, IsLowest}
use Rattle.ofit_num.specs.RowTotals.{total_weight}
use Rattle.ofit_num.specs.Loss.{median}
use Rattle.ofit_loss.specs.Median.{weight_at}
use Rattle.ofit_loss.specs.Quantile.{weight_upto, weight_under}
use Rattle.ofit_loss.specs.Entries.{IsLeastRowValue}
use Rattle.ofit_loss.specs.Least.{IsLeastMinimiser}
use Rattle.ofit_loss.proofs.Entries.{median_least, median_greatest}
use Rattle.ofit_loss.proofs.MedianLeast.{one_times, least_by_weights, greatest_by_weights}

-- where rows weigh something at p/q, one of them lies there
row_at : (rows : List Row) (p : ℤ) (q : ℕ) → 0 < weight_at rows p q → Any (λ r. pos q *ℤ r.value ≡ p) rows
row_at [] p q some = absurd (omega arith)
row_at (r ∷ rows) p q some = go (row_at rows p q) (int_cmp (pos q *ℤ r.value) p) refl where
  later : Any (λ r. pos q *ℤ r.value ≡ p) rows → Any (λ r. pos q *ℤ r.value ≡ p) (r ∷ rows)
  later (k, x, l, at, is) = (k + 1, x, omega (arith, l), rw add-one at, is)

  rest : (o : Ordering) → o ≡ int_cmp (pos q *ℤ r.value) p → cond (is_eq o) r.weight 0 ≡ 0 → 0 < weight_at rows p q
  rest o e none = omega (arith, some, none, sum_by-cons (λ (r : Row). cond (is_eq (int_cmp (pos q *ℤ r.value) p)) r.weight 0) r rows, ap (λ (o : Ordering). cond (is_eq o) r.weight 0) e)

  go : (0 < weight_at rows p q → Any (λ r. pos q *ℤ r.value ≡ p) rows) → (o : Ordering) → o ≡ int_cmp (pos q *ℤ r.value) p → Any (λ r. pos q *ℤ r.value ≡ p) (r ∷ rows)
  go found Equal e = (0, r, omega arith, refl, int_ranked (pos q *ℤ r.value) p Equal e)
  go found Less e = later (found (rest Less e refl))
  go found Greater e = later (found (rest Greater e refl))

-- Half of the weight or more lies at most at the least minimiser, and less than half below it; so a row lies there.
some_row : (rows : List Row) (c : Fraction) → IsLeastMinimiser median false rows c → Any (λ r. pos c.den *ℤ r.value ≡ c.num) rows
some_row rows c h = row_at rows c.num c.den (omega (arith, ints, median_least rows c.num c.den, median_greatest rows c.num c.den, h.least, h.greatest))

-- so its denominator divides its numerator
pub whole_least : (rows : List Row) (c : Fraction) → IsLowest c → IsLeastMinimiser median false rows c → c.den ≡ 1
whole_least rows c lowest h = dvd_antisymm (lowest.coprime.2 c.den divides (dvd_refl c.den)) (one-dvd c.den) where
  divides : c.den ∣ unsigned_abs c.num
  divides = subst (λ (n : ℕ). c.den ∣ n) (sym (unsigned_abs-mul (pos c.den) (some_row rows c h).1.value) ∙ ap unsigned_abs (some_row rows c h).4) (dvd-mul_right c.den (unsigned_abs (some_row rows c h).1.value))

-- the rows at most at a value below v lie below v
upto_under : (u v : ℤ) (rows : List Row) → u <ℤ v → weight_upto u rows ≤ weight_under v rows
upto_under u v rows l = sum_by-le-sum_by _ _ rows (λ r. go r (int_cmp r.value u) (int_cmp r.value v) (int_ranked r.value u (int_cmp r.value u) refl) (int_ranked r.value v (int_cmp r.value v) refl)) where
  go : (r : Row) (o p : Ordering) → MatchOrdering o (r.value <ℤ u) (r.value ≡ u) (u <ℤ r.value) → MatchOrdering p (r.value <ℤ v) (r.value ≡ v) (v <ℤ r.value) → cond (is_gt o) 0 r.weight ≤ cond (is_lt p) r.weight 0
  go r Greater p h k = omega arith
  go r Less Less h k = omega arith
  go r Less Equal h k = absurd (omega (arith, ints, h, k, l))
  go r Less Greater h k = absurd (omega (arith, ints, h, k, l))
  go r Equal Less h k = omega arith
  go r Equal Equal h k = absurd (omega (arith, ints, h, k, l))
  go r Equal Greater h k = absurd (omega (arith, ints, h, k, l))

pub row_value : (rows : List Row) (c : Fraction) → IsLowest c → IsLeastMinimiser median false rows c → IsLeastRowValue 1 1 rows c.num
row_value rows c lowest h = record {
  row = ((some_row rows c h).0, (some_row rows c h).1, (some_row rows c h).2, (some_row rows c h).3, value);
  reached = reached;
  first = λ k d l share. by_lt_z (get_or rows k d).value c.num (λ low. absurd (omega (arith, share, under, upto_under (get_or rows k d).value c.num rows low))) (λ high. high);
} where
  one : c.den ≡ 1
  one = whole_least rows c lowest h

  value : (some_row rows c h).1.value ≡ c.num
  value = sym (one_times (some_row rows c h).1.value) ∙ ap (λ (q : ℕ). pos q *ℤ (some_row rows c h).1.value) (sym one) ∙ (some_row rows c h).4

  low : median.least rows c.num 1 ≤ℤ pos 0
  low = subst (λ (q : ℕ). median.least rows c.num q ≤ℤ pos 0) one h.least

  high : pos 0 <ℤ median.greatest rows c.num 1
  high = subst (λ (q : ℕ). pos 0 <ℤ median.greatest rows c.num q) one h.greatest

  reached : 1 * total_weight rows ≤ (1 + 1) * weight_upto c.num rows
  reached = omega (arith, ints, low, least_by_weights rows c.num)

  under : (1 + 1) * weight_under c.num rows < 1 * total_weight rows
  under = omega (arith, ints, high, greatest_by_weights rows c.num)
