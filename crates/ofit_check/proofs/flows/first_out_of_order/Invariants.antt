use Rattle.std.proofs.Common.{ℕ, ◌<◌}
use Rattle.ofit_num.specs.Verdict.{IsInOrder}
use Rattle.ofit_study.specs.Study.{problem_stated}
use Rattle.ofit_check.proofs.flows.first_out_of_order.Given as goal

abbrev pub invariant-loop-index : goal.invariant-loop-index
invariant-loop-index l = (k : ℕ) → k < l.index → IsInOrder (problem_stated l.study) l.sheet k
