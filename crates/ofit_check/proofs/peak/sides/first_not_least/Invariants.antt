use Rattle.std.proofs.Common.{ℕ, ◌<◌}
use Rattle.ofit_study.specs.Study.{problem_stated}
use Rattle.ofit_sheet.specs.PeakVerdict.{IsReached}
use Rattle.ofit_check.proofs.peak.sides.first_not_least.Given as goal

abbrev pub invariant-loop-length : goal.invariant-loop-length
invariant-loop-length l = (k : ℕ) → k < l.length → IsReached (problem_stated l.study) l.peaked k
