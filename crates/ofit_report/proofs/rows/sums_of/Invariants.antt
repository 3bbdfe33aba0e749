use Rattle.std.proofs.Common.{◌≡◌, ◌≤◌, ◌*◌, ◌^◌, take}
use Rattle.std.specs.Int.RustNames.{unsigned_abs}
use Rattle.ofit_num.specs.RowTotals.{total_weight}
use Rattle.ofit_loss.specs.Squares.{weighted_sum}
use Rattle.ofit_report.specs.RowSums.{weighted_squares}
use Rattle.ofit_report.proofs.rows.sums_of.Given as goal

abbrev pub invariant-loop-row : goal.invariant-loop-row
invariant-loop-row l = record {
  weight : l.weight ≡ total_weight (take l.row-index l.rows);
  sum : l.sum ≡ weighted_sum (take l.row-index l.rows);
  squares : l.squares ≡ weighted_squares (take l.row-index l.rows);
  most_weight : l.weight ≤ 10 ^ 10;
  most_sum : unsigned_abs l.sum ≤ 10 ^ 9 * l.weight;
  most_squares : unsigned_abs l.squares ≤ 10 ^ 18 * l.weight;
}
