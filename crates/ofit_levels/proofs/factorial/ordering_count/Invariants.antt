use Rattle.std.proofs.Common.{◌≡◌}
use Rattle.ofit_levels.specs.Factorial.{factorial}
use Rattle.ofit_levels.proofs.factorial.ordering_count.Given as goal

abbrev pub invariant-loop-item : goal.invariant-loop-item
invariant-loop-item l = l.product ≡ factorial l.item
