use Rattle.std.proofs.Common.{◌-◌, length}
use Rattle.ofit_flow.proofs.Searching.{IsUnderWay}
use Rattle.ofit_flow.proofs.levels.search_levels.Given as goal

abbrev pub invariant-loop-next : goal.invariant-loop-next
invariant-loop-next l =
    IsUnderWay l.edges l.amounts (length l.fn.search.levels.items) l.fn.start l.search.start l.search.levels.items l.search.queue.items l.next

abbrev pub decreases-loop-next : goal.decreases-loop-next
decreases-loop-next l = length l.fn.search.levels.items - l.next
