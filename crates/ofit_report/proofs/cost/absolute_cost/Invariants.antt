use Rattle.std.proofs.Common.{◌≡◌, ◌≤◌, ◌*◌, ◌^◌, take}
use Rattle.std.specs.Prelude.{pos}
use Rattle.ofit_num.specs.RowTotals.{total_weight}
use Rattle.ofit_num.specs.Loss.{row_sum}
use Rattle.ofit_report.specs.RowSums.{distance}
use Rattle.ofit_report.proofs.cost.absolute_cost.Given as goal

abbrev pub invariant-loop-row : goal.invariant-loop-row
invariant-loop-row l = record {
  cost : l.cost ≡ pos (row_sum (λ r. distance r l.value) (take l.row-index l.rows));
  size : row_sum (λ r. distance r l.value) (take l.row-index l.rows) ≤ 2 * 10 ^ 21 * total_weight (take l.row-index l.rows);
}
