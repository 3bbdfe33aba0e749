use Rattle.std.proofs.Common.{◌≡◌, ◌++◌}
use Rattle.ofit_num.specs.Pairs.{falling}
use Rattle.ofit_table.proofs.shape.add_falling.Given as goal

abbrev pub invariant-loop-i : goal.invariant-loop-i
invariant-loop-i l = l.pairs.items ≡ l.initial.pairs.items ++ falling l.first l.i
