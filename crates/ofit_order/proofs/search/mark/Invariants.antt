use Rattle.std.proofs.Common.{take}
use Rattle.ofit_order.proofs.Seeing.{AreMarked}
use Rattle.ofit_order.proofs.search.mark.Given as goal

abbrev pub invariant-loop-place : goal.invariant-loop-place
invariant-loop-place l = AreMarked l.fn.components l.components (take l.place-index l.places) l.component
