-- The quantile of even factors is the least minimiser under the median.
use Rattle.std.proofs.Common.{◌≡◌, ◌*◌, ◌≤◌, ◌^◌, List, [], ◌∷◌, refl, sym, ap, subst, arith}
use Rattle.std.proofs.Math.Nat.{one-dvd}
use Rattle.std.proofs.lemmas.Int.{ints}
use Rattle.std.proofs.lemmas.Cmp.{int_ranked}
use Rattle.std.specs.Ordering.{int_cmp, is_lt, is_gt, MatchOrdering}
use Rattle.std.specs.declared.cmp.Ordering.{Ordering}
use Rattle.std.specs.declared.cmp.Ordering.TheVariants.{Less, Equal, Greater}
use Rattle.std.proofs.lemmas.List.Sums.{sum_by-cons}
use Rattle.std.specs.Prelude.{ℤ, pos, false, cond, max, ◌+ℤ◌, ◌-ℤ◌, ◌*ℤ◌, ◌≤ℤ◌, ◌<ℤ◌, unsigned_abs}
use Rattle.ofit_num.specs.declared.row.Row.{Row}
use Rattle.ofit_num.specs.Fraction.{Fraction, IsLowest}
use Rattle.ofit_num.specs.RowTotals.{total_weight}
use Rattle.ofit_num.specs.RowLimits.{IsRowWithinLimits, AreWithinLimits}
use Rattle.ofit_num.specs.Loss.{residual, absolute_least, absolute_greatest, median}
use Rattle.ofit_num.proofs.Gap.{is_gap, gap-same, gap-mul, pos-gap}
use Rattle.ofit_num.proofs.TableScaling.{no_power}
use Rattle.ofit_loss.specs.Rows.{AreFittable}
use Rattle.ofit_loss.specs.Least.{IsLeastMinimiser, balance_sizes}
use Rattle.ofit_loss.specs.Quantile.{IsQuantile, weight_upto, weight_under}
use Rattle.ofit_loss.specs.TableLaws.{median-laws}
use Rattle.ofit_loss.proofs.Sizes.{sizes_within}
use Rattle.ofit_loss.proofs.AbsoluteEnds.{once, least_above, least_below, greatest_above, greatest_below, least_size, greatest_size}

pub one_times : (z : ℤ) → pos 1 *ℤ z ≡ z
one_times z = rw (is_gap z) (simp (pos-gap, gap-mul) (gap-same _ _ _ _ (omega arith)))

-- the residual at a whole number
whole_residual : (r : Row) (v : ℤ) → residual r v 1 ≡ r.value -ℤ v
whole_residual r v = ap (λ (z : ℤ). z -ℤ v) (one_times r.value)

-- the ends of a row's span by where its weight lies
row_least : (r : Row) (v : ℤ) → absolute_least once r.weight (residual r v 1) ≡ pos r.weight -ℤ pos (2 * cond (is_gt (int_cmp r.value v)) 0 r.weight)
row_least r v = go (int_cmp r.value v) (int_ranked r.value v (int_cmp r.value v) refl) where
  go : (o : Ordering) → MatchOrdering o (r.value <ℤ v) (r.value ≡ v) (v <ℤ r.value) → absolute_least once r.weight (residual r v 1) ≡ pos r.weight -ℤ pos (2 * cond (is_gt o) 0 r.weight)
  go Less l = omega (arith, ints, least_below r.weight (residual r v 1) (omega (arith, ints, whole_residual r v, l)))
  go Equal l = omega (arith, ints, least_below r.weight (residual r v 1) (omega (arith, ints, whole_residual r v, l)))
  go Greater l = omega (arith, ints, least_above r.weight (residual r v 1) (omega (arith, ints, whole_residual r v, l)))

row_greatest : (r : Row) (v : ℤ) → absolute_greatest once r.weight (residual r v 1) ≡ pos r.weight -ℤ pos (2 * cond (is_lt (int_cmp r.value v)) r.weight 0)
row_greatest r v = go (int_cmp r.value v) (int_ranked r.value v (int_cmp r.value v) refl) where
  go : (o : Ordering) → MatchOrdering o (r.value <ℤ v) (r.value ≡ v) (v <ℤ r.value) → absolute_greatest once r.weight (residual r v 1) ≡ pos r.weight -ℤ pos (2 * cond (is_lt o) r.weight 0)
  go Less l = omega (arith, ints, greatest_below r.weight (residual r v 1) (omega (arith, ints, whole_residual r v, l)))
  go Equal l = omega (arith, ints, greatest_above r.weight (residual r v 1) (omega (arith, ints, whole_residual r v, l)))
  go Greater l = omega (arith, ints, greatest_above r.weight (residual r v 1) (omega (arith, ints, whole_residual r v, l)))

-- the span at a whole number by the weights at most there and below it
pub least_by_weights : (rows : List Row) (v : ℤ) → median.least rows v 1 ≡ pos (total_weight rows) -ℤ pos (2 * weight_upto v rows)
least_by_weights [] v = refl
least_by_weights (r ∷ rows) v = omega (arith, ints, row_least r v, least_by_weights rows v, sum_by-cons (λ (r : Row). r.weight) r rows, sum_by-cons (λ (r : Row). cond (is_gt (int_cmp r.value v)) 0 r.weight) r rows)

pub greatest_by_weights : (rows : List Row) (v : ℤ) → median.greatest rows v 1 ≡ pos (total_weight rows) -ℤ pos (2 * weight_under v rows)
greatest_by_weights [] v = refl
greatest_by_weights (r ∷ rows) v = omega (arith, ints, row_greatest r v, greatest_by_weights rows v, sum_by-cons (λ (r : Row). r.weight) r rows, sum_by-cons (λ (r : Row). cond (is_lt (int_cmp r.value v)) r.weight 0) r rows)

pub least_minimiser : (rows : List Row) (v : ℤ) → AreFittable rows → median.least rows v 1 ≤ℤ pos 0 → pos 0 <ℤ median.greatest rows v 1 → IsLeastMinimiser median false rows (record { num = v; den = 1 })
least_minimiser rows v fit low high = record {
  den = omega arith;
  least = low;
  greatest = high;
  smaller = λ b lb below. omega (
    arith,
    ints,
    high,
    (median-laws.falling rows fit).falls b (record { num = v; den = 1 }) lb (omega arith) below,
    no_power (median.greatest rows v 1) b.den,
    no_power (median.least rows b.num b.den) 1,
  );
}

pub balances_within : (rows : List Row) (c : Fraction) → AreWithinLimits rows → balance_sizes median rows c ≤ 2 * 10 ^ 33
balances_within rows c fit = omega (arith, sizes_within _ 1 rows fit.each each, fit.together) where
  alone : (z : ℤ) → z +ℤ pos 0 ≡ z
  alone z = omega (arith, ints)

  each : (r : Row) → IsRowWithinLimits r → max (unsigned_abs (median.least (r ∷ []) c.num c.den)) (unsigned_abs (median.greatest (r ∷ []) c.num c.den)) ≤ 1 * r.weight
  each r h = omega (
    arith,
    ap unsigned_abs (alone (absolute_least once r.weight (residual r c.num c.den))),
    ap unsigned_abs (alone (absolute_greatest once r.weight (residual r c.num c.den))),
    least_size r.weight (residual r c.num c.den),
    greatest_size r.weight (residual r c.num c.den),
  )

pub lowest_whole : (v : ℤ) → IsLowest (record { num = v; den = 1 })
lowest_whole v = record { den = omega arith; coprime = (one-dvd (unsigned_abs v), one-dvd 1, λ d h k. k) }

-- The quantile of even factors is the least minimiser.
pub minimiser_of : (c : Fraction) (v : ℤ) (rows : List Row) → c ≡ record { num = v; den = 1 } → AreFittable rows → IsQuantile 1 1 rows v → IsLeastMinimiser median false rows c
minimiser_of c v rows e fit h = subst (λ (d : Fraction). IsLeastMinimiser median false rows d) (sym e)
    (least_minimiser rows v fit (omega (arith, ints, least_by_weights rows v, h.reached)) (omega (arith, ints, greatest_by_weights rows v, h.least)))
