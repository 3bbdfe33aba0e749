use Rattle.std.proofs.Common.{ℕ, ◌<◌}
use Rattle.ofit_num.specs.Verdict.{IsInBounds}
use Rattle.ofit_study.specs.Study.{problem_stated}
use Rattle.ofit_check.proofs.values.first_out_of_bounds.Given as goal

abbrev pub invariant-loop-place : goal.invariant-loop-place
invariant-loop-place l = (k : ℕ) → k < l.place → IsInBounds (problem_stated l.study) l.sheet k
