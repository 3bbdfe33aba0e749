-- the span of the median over one row more
use Rattle.std.proofs.Common.{◌≡◌, ℕ, ◌+◌, ◌≤◌, ◌<◌, List, take, length, get_or, arith}
use Rattle.std.proofs.lemmas.List.Sums.{sum_by-take-le, sum_by_more_le}
use Rattle.std.specs.Prelude.{ℤ, pos, ◌+ℤ◌, unsigned_abs}
use Rattle.ofit_num.specs.declared.row.Row.{Row}
use Rattle.ofit_num.specs.RowTotals.{total_weight}
use Rattle.ofit_num.specs.Loss.{residual, absolute_least, absolute_greatest, median}
use Rattle.ofit_loss.proofs.Sizes.{int_row_sum-take_more}
use Rattle.ofit_loss.proofs.AbsoluteEnds.{once, least_size, greatest_size, int_sum_size}

-- the row that stands for one past the end
abbrev pub no_row : Row
no_row = record { number = 0; value = pos 0; weight = 0 }

pub least_more : (rows : List Row) (p : ℤ) (q k : ℕ) → k < length rows
    → median.least (take (k + 1) rows) p q ≡ median.least (take k rows) p q +ℤ absolute_least once (get_or rows k no_row).weight (residual (get_or rows k no_row) p q)
least_more rows p q k l = int_row_sum-take_more (λ (r : Row). absolute_least once r.weight (residual r p q)) rows k no_row l

pub greatest_more : (rows : List Row) (p : ℤ) (q k : ℕ) → k < length rows
    → median.greatest (take (k + 1) rows) p q ≡ median.greatest (take k rows) p q +ℤ absolute_greatest once (get_or rows k no_row).weight (residual (get_or rows k no_row) p q)
greatest_more rows p q k l = int_row_sum-take_more (λ (r : Row). absolute_greatest once r.weight (residual r p q)) rows k no_row l

-- the ends of some of the rows and of the next row are at most the weight of all
pub least_upto : (rows : List Row) (p : ℤ) (q k : ℕ) → unsigned_abs (median.least (take k rows) p q) ≤ total_weight rows
least_upto rows p q k =
    omega (arith, int_sum_size (λ (r : Row). absolute_least once r.weight (residual r p q)) (λ r. least_size r.weight (residual r p q)) (take k rows), sum_by-take-le (λ (r : Row). r.weight) rows k)

pub greatest_upto : (rows : List Row) (p : ℤ) (q k : ℕ) → unsigned_abs (median.greatest (take k rows) p q) ≤ total_weight rows
greatest_upto rows p q k =
    omega (arith, int_sum_size (λ (r : Row). absolute_greatest once r.weight (residual r p q)) (λ r. greatest_size r.weight (residual r p q)) (take k rows), sum_by-take-le (λ (r : Row). r.weight) rows k)

pub row_weight : (rows : List Row) (k : ℕ) → k < length rows → (get_or rows k no_row).weight ≤ total_weight rows
row_weight rows k l = omega (arith, sum_by_more_le (λ (r : Row). r.weight) rows k no_row l)
