use Rattle.std.proofs.Common.{◌<◌, ℕ}
use Rattle.ofit_cut.specs.Sets.{weight_at}
use Rattle.ofit_cut.specs.Balance.{pair_at}
use Rattle.ofit_cut.specs.Balances.{IsAmount}
use Rattle.ofit_cut.proofs.balances.are_flows.Given as goal

abbrev pub invariant-loop-index : goal.invariant-loop-index
invariant-loop-index l = (k : ℕ) → k < l.index → IsAmount (pair_at l.pairs k) (weight_at l.amounts k)
