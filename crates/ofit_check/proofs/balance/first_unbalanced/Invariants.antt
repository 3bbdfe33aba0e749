use Rattle.std.proofs.Common.{ℕ, ◌<◌}
use Rattle.ofit_num.specs.Verdict.{IsBalanced}
use Rattle.ofit_study.specs.Study.{problem_stated, meaning_of}
use Rattle.ofit_check.proofs.balance.first_unbalanced.Given as goal

abbrev pub invariant-loop-place : goal.invariant-loop-place
invariant-loop-place l = (k : ℕ) → k < l.place → IsBalanced (meaning_of l.study.settings.loss) (problem_stated l.study) l.sheet k
