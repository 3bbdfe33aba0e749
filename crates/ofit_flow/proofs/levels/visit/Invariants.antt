use Rattle.ofit_flow.proofs.Searching.{IsPartWay}
use Rattle.ofit_flow.proofs.levels.visit.Given as goal

abbrev pub invariant-loop-number : goal.invariant-loop-number
invariant-loop-number l =
    IsPartWay l.edges l.amounts l.row l.node l.initial.search.start l.initial.search.levels.items l.initial.search.queue.items l.number-index l.search.start l.search.levels.items l.search.queue.items
