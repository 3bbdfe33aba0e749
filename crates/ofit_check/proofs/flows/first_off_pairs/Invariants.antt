use Rattle.std.proofs.Common.{ℕ, ◌<◌}
use Rattle.ofit_num.specs.Verdict.{IsOnPair}
use Rattle.ofit_study.specs.Study.{problem_stated}
use Rattle.ofit_check.proofs.flows.first_off_pairs.Given as goal

abbrev pub invariant-loop-index : goal.invariant-loop-index
invariant-loop-index l = (k : ℕ) → k < l.index → IsOnPair (problem_stated l.study) l.sheet k
