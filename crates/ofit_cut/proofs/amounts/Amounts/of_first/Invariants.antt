use Rattle.std.proofs.Common.{◌≡◌, take}
use Rattle.ofit_cut.proofs.amounts.Amounts.of_first.Given as goal

abbrev pub invariant-loop-edge : goal.invariant-loop-edge
invariant-loop-edge l = l.amounts.items ≡ take l.edge l.flowed.amounts
