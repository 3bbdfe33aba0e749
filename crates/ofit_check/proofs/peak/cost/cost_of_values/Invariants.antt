use Rattle.std.proofs.Common.{◌≡◌, ◌≤◌, ◌*◌, ◌^◌, ℕ, pos}
use Rattle.std.specs.Prelude.{slice_index_or}
use Rattle.ofit_num.specs.declared.limits.TheConstants.{MOST_WEIGHT}
use Rattle.ofit_num.specs.Fit.{sum_below}
use Rattle.ofit_num.specs.Loss.{median}
use Rattle.ofit_study.specs.Study.{problem_stated}
use Rattle.ofit_check.proofs.peak.cost.cost_of_values.Given as goal

abbrev pub invariant-loop-place : goal.invariant-loop-place
invariant-loop-place l = record {
  exact : l.cost ≡ sum_below (λ (g : ℕ). median.cost ((problem_stated l.study).rows g) (slice_index_or l.peaked.values g (pos 0)) 1) l.place;
  most : l.cost ≤ 2 ^ 64 * MOST_WEIGHT * l.place;
}
