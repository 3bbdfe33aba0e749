use Rattle.std.proofs.Common.{take}
use Rattle.ofit_order.specs.Search.{Visits}
use Rattle.ofit_order.proofs.search.visit.Given as goal

abbrev pub invariant-loop-place : goal.invariant-loop-place
invariant-loop-place l = Visits (take l.place-index l.neighbours) l.fn.found.items l.found.items l.fn.seen.items l.seen.items
