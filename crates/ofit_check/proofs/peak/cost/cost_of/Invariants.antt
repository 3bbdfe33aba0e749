use Rattle.std.proofs.Common.{◌≡◌, ◌≤◌, ◌*◌, ◌^◌, take}
use Rattle.ofit_num.specs.RowTotals.{total_weight}
use Rattle.ofit_num.specs.Loss.{row_sum}
use Rattle.ofit_check.specs.PeakSteps.{distance}
use Rattle.ofit_check.proofs.peak.cost.cost_of.Given as goal

abbrev pub invariant-loop-row : goal.invariant-loop-row
invariant-loop-row l = record {
  exact : l.cost ≡ row_sum (distance l.value) (take l.row-index l.rows);
  most : l.cost ≤ 2 ^ 64 * total_weight (take l.row-index l.rows);
}
