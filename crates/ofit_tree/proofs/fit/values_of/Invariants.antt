use Rattle.ofit_tree.specs.Forest.{AreSettledValues}
use Rattle.ofit_tree.proofs.fit.values_of.Given as goal

abbrev pub invariant-loop-label : goal.invariant-loop-label
invariant-loop-label g l = AreSettledValues l.labels l.slots l.label-index l.values.items
