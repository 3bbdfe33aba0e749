use Rattle.std.proofs.Common.{ℕ, ◌<◌, ◌-◌}
use Rattle.ofit_num.specs.Verdict.{AllBelow}
use Rattle.ofit_study.specs.Study.{problem_stated}
use Rattle.ofit_sheet.specs.PeakVerdict.{KeepsFall}
use Rattle.ofit_check.proofs.peak.sides.first_bad_fall.Given as goal

abbrev pub invariant-loop-start : goal.invariant-loop-start
invariant-loop-start l = (i : ℕ) → i < l.start → AllBelow (KeepsFall (problem_stated l.study) l.peaked i) ((problem_stated l.study).count - i)
