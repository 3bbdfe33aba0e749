use Rattle.std.proofs.Common.{◌≡◌, ◌++◌}
use Rattle.ofit_num.specs.Pairs.{rising_to}
use Rattle.ofit_table.proofs.shape.add_rising.Given as goal

abbrev pub invariant-loop-i : goal.invariant-loop-i
invariant-loop-i l = l.pairs.items ≡ l.initial.pairs.items ++ rising_to l.i
