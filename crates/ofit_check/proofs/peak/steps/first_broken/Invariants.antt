use Rattle.std.proofs.Common.{ℕ, ◌+◌, ◌<◌}
use Rattle.ofit_study.specs.Study.{problem_stated}
use Rattle.ofit_check.specs.PeakSteps.{IsStep}
use Rattle.ofit_check.proofs.peak.steps.first_broken.Given as goal

abbrev pub invariant-loop-index : goal.invariant-loop-index
invariant-loop-index l = (k : ℕ) → k < l.index → IsStep l.slope ((problem_stated l.study).rows (l.start + k)) l.side k
