use Rattle.std.proofs.Common.{length}
use Rattle.std.specs.Prelude.{◌-ℤ◌}
use borrow.Author.Differences.{up}
use Rattle.ofit_flow.specs.Cut.{capacity}
use Rattle.ofit_flow.specs.Incidence.{row_at}
use Rattle.ofit_flow.proofs.Augmenting.{only}
use Rattle.ofit_flow.proofs.Block.{IsBlocking}
use Rattle.ofit_flow.proofs.blocking.block.Given as goal

abbrev pub invariant-loop-walk : goal.invariant-loop-walk
invariant-loop-walk l =
    IsBlocking l.edges (length l.fn.levels.items) (row_at l.rows) l.source l.sink l.fn.levels.items l.flow.amounts.items l.levels.items l.walk.spent.items l.flow.value

abbrev pub decreases-loop-walk : goal.decreases-loop-walk
decreases-loop-walk l = up (capacity (only l.source) l.edges -ℤ l.flow.value)
