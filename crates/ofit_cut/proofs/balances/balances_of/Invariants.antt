use Rattle.std.proofs.Common.{take}
use Rattle.ofit_cut.specs.Balances.{AreBalances}
use Rattle.ofit_cut.proofs.balances.balances_of.Given as goal

abbrev pub invariant-loop-index : goal.invariant-loop-index
invariant-loop-index l = AreBalances l.nodes (take l.index l.pairs) (take l.index l.amounts) l.balances.items
