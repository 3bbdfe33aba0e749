use Rattle.std.proofs.Common.{◌≡◌, ◌≤◌, ◌*◌, ◌^◌}
use Rattle.ofit_num.specs.declared.limits.TheConstants.{MOST_WEIGHT}
use Rattle.ofit_study.specs.Study.{problem_stated}
use Rattle.ofit_check.specs.PeakSteps.{side_cost}
use Rattle.ofit_check.proofs.peak.cost.cost_of_side.Given as goal

abbrev pub invariant-loop-index : goal.invariant-loop-index
invariant-loop-index l = record {
  exact : l.cost ≡ side_cost (problem_stated l.study) l.start l.side l.index;
  most : l.cost ≤ 2 ^ 64 * MOST_WEIGHT * l.index;
}
