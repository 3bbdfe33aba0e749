use Rattle.std.proofs.Common.{◌+◌, ◌-◌, length}
use Rattle.ofit_order.specs.Rows.{rows_of}
use Rattle.ofit_order.specs.Search.{unseen_count}
use Rattle.ofit_order.proofs.Seeing.{IsUnderway}
use Rattle.ofit_order.proofs.search.reach.Given as goal

abbrev pub invariant-loop-done : goal.invariant-loop-done
invariant-loop-done l = IsUnderway (rows_of l.rows) l.start l.found.items l.fn.seen.items l.seen.items l.done

abbrev pub decreases-loop-done : goal.decreases-loop-done
decreases-loop-done l = unseen_count l.seen.items + (length l.found.items - l.done)
