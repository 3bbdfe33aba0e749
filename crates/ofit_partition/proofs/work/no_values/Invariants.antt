use Rattle.std.proofs.Common.{◌≡◌, replicate, None}
use Rattle.ofit_partition.proofs.work.no_values.Given as goal

abbrev pub invariant-loop : goal.invariant-loop
invariant-loop l = l.values.items ≡ replicate l.counter None
