use Rattle.std.proofs.Common.{◌≡◌, length, take}
use Rattle.ofit_order.specs.Rows.{rows_of, AreNeighbours}
use Rattle.ofit_order.proofs.neighbours.neighbours_of.Given as goal

abbrev pub invariant-loop-low : goal.invariant-loop-low
invariant-loop-low l = record {
  counted : length l.rows.items ≡ l.fn.places;
  exact : AreNeighbours (take l.low-index l.pairs) (rows_of l.rows.items);
}
