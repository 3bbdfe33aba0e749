use Rattle.ofit_partition.specs.Work.{AreValues}
use Rattle.ofit_partition.proofs.fit.values_of.Given as goal

abbrev pub invariant-loop-value : goal.invariant-loop-value
invariant-loop-value l = AreValues l.value-index l.settled l.values.items
