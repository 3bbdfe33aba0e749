use Rattle.std.proofs.Common.{take}
use Rattle.ofit_fit.specs.Links.{AreAdded}
use Rattle.ofit_fit.proofs.general.add_pairs.Given as goal

abbrev pub invariant-loop-pair : goal.invariant-loop-pair
invariant-loop-pair l = AreAdded l.members (take l.pair-index l.above) l.position l.initial.found.items l.found.items
