use Rattle.ofit_fit.proofs.Linking.{AreLinkedUpTo}
use Rattle.ofit_fit.proofs.links.links_down.Given as goal

abbrev pub invariant-loop-position : goal.invariant-loop-position
invariant-loop-position l = AreLinkedUpTo l.pairs l.members l.position l.links.items
