use Rattle.std.proofs.Common.{◌+◌, ◌-◌, length}
use Rattle.ofit_flow.proofs.Counting.{IsPhased}
use Rattle.ofit_flow.proofs.flow.flow_by_phases.Given as goal

abbrev pub invariant-loop-walk : goal.invariant-loop-walk
invariant-loop-walk l =
    IsPhased l.edges (length l.fn.search.levels.items) l.source l.sink l.flow.amounts.items l.flow.value l.search.levels.items l.walk.spent.items l.fn.phases.count l.phases.count

abbrev pub decreases-loop-walk : goal.decreases-loop-walk
decreases-loop-walk l = l.fn.phases.count + length l.fn.search.levels.items - l.phases.count
