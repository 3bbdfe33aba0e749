use Rattle.std.proofs.Common.{ℕ, ◌≤◌}
use Rattle.ofit_num.specs.Verdict.{AllBelow}
use Rattle.ofit_study.specs.Study.{problem_stated}
use Rattle.ofit_sheet.specs.PeakVerdict.{KeepsRise}
use Rattle.ofit_check.proofs.peak.sides.first_bad_rise.Given as goal

abbrev pub invariant-loop-index : goal.invariant-loop-index
invariant-loop-index l = (i : ℕ) → 1 ≤ i → i ≤ l.index → AllBelow (KeepsRise (problem_stated l.study) l.peaked i) i
