use Rattle.ofit_order.specs.Rows.{rows_of}
use Rattle.ofit_order.proofs.Counting.{IsNumberedBelow}
use Rattle.ofit_order.proofs.search.number_components.Given as goal

abbrev pub invariant-loop-start : goal.invariant-loop-start
invariant-loop-start l = IsNumberedBelow (rows_of l.rows) l.start l.components.items l.count l.seen.items
