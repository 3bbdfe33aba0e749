use Rattle.std.proofs.Common.{length}
use Rattle.ofit_flow.proofs.Listing.{IsFilled}
use Rattle.ofit_flow.proofs.incidence.list_edges.Given as goal

abbrev pub invariant-loop-number : goal.invariant-loop-number
invariant-loop-number l = IsFilled l.edges l.nodes (length l.initial.numbers.items) l.number l.starts l.places.items l.numbers.items
