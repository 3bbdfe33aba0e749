use Rattle.std.proofs.Common.{◌≡◌, [], replicate}
use Rattle.ofit_order.specs.Rows.{rows_of}
use Rattle.ofit_order.proofs.neighbours.empty_rows.Given as goal

abbrev pub invariant-loop : goal.invariant-loop
invariant-loop l = rows_of l.rows.items ≡ replicate l.counter []
