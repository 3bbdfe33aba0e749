use Rattle.std.proofs.Common.{take}
use Rattle.ofit_fit.specs.Links.{AreLinkedBack}
use Rattle.ofit_fit.proofs.links.link_back.Given as goal

abbrev pub invariant-loop-pair : goal.invariant-loop-pair
invariant-loop-pair l = AreLinkedBack l.members (take l.pair-index l.above) l.position l.initial.links.items l.links.items
