use Rattle.std.proofs.Common.{ℕ, ◌<◌}
use Rattle.ofit_num.specs.Verdict.{RisesAlong}
use Rattle.ofit_study.specs.Study.{problem_stated}
use Rattle.ofit_check.proofs.values.first_disobedient.Given as goal

abbrev pub invariant-loop-index : goal.invariant-loop-index
invariant-loop-index l = (k : ℕ) → k < l.index → RisesAlong (problem_stated l.study) l.sheet k
