use Rattle.ofit_fit.proofs.Generals.{AreGathered}
use Rattle.ofit_fit.proofs.general.pairs_between.Given as goal

abbrev pub invariant-loop-position : goal.invariant-loop-position
invariant-loop-position l = AreGathered l.pairs l.members l.position l.found.items
