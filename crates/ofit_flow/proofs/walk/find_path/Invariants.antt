use Rattle.std.proofs.Common.{◌+◌, ◌-◌, ◌*◌, length, is_some}
use Rattle.std.specs.List.{count_by}
use Rattle.ofit_flow.specs.Incidence.{row_at}
use Rattle.ofit_flow.proofs.Walking.{IsWalking}
use Rattle.ofit_flow.proofs.walk.find_path.Given as goal

abbrev pub invariant-loop-node : goal.invariant-loop-node
invariant-loop-node l =
    IsWalking l.edges l.amounts (length l.fn.levels.items) (row_at l.rows) l.fn.levels.items l.levels.items l.fn.walk.spent.items l.walk.spent.items l.walk.path.items l.source l.sink l.node

abbrev pub decreases-loop-node : goal.decreases-loop-node
decreases-loop-node l = 2 * count_by is_some l.levels.items + (length l.fn.levels.items - length l.walk.path.items)
