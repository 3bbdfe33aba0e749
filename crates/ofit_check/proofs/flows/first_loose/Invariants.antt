use Rattle.std.proofs.Common.{ℕ, ◌<◌}
use Rattle.ofit_num.specs.Verdict.{JoinsEqual}
use Rattle.ofit_check.proofs.flows.first_loose.Given as goal

abbrev pub invariant-loop-index : goal.invariant-loop-index
invariant-loop-index l = (k : ℕ) → k < l.index → JoinsEqual l.sheet k
