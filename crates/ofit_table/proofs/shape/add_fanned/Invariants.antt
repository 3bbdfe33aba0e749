use Rattle.std.proofs.Common.{◌≡◌, ◌++◌}
use Rattle.ofit_num.specs.Pairs.{fanned}
use Rattle.ofit_table.proofs.shape.add_fanned.Given as goal

abbrev pub invariant-loop-i : goal.invariant-loop-i
invariant-loop-i l = l.pairs.items ≡ l.initial.pairs.items ++ fanned l.root l.first l.i
