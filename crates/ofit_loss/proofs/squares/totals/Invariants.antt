use Rattle.std.proofs.Common.{◌≡◌, ◌≤◌, ◌*◌, ◌^◌, take}
use Rattle.std.specs.Int.RustNames.{unsigned_abs}
use Rattle.ofit_num.specs.RowTotals.{total_weight}
use Rattle.ofit_loss.specs.Squares.{weighted_sum}
use Rattle.ofit_loss.proofs.squares.totals.Given as goal

abbrev pub invariant-loop-row : goal.invariant-loop-row
invariant-loop-row l = record {
  sum : l.sum ≡ weighted_sum (take l.row-index l.rows);
  weight : l.weight ≡ total_weight (take l.row-index l.rows);
  within : l.weight ≤ 10 ^ 10;
  size : unsigned_abs l.sum ≤ 10 ^ 9 * l.weight;
}
