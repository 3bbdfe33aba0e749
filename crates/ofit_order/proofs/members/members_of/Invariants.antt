use Rattle.std.proofs.Common.{◌≡◌, length}
use Rattle.ofit_order.specs.Rows.{rows_of, ArePartsBelow}
use Rattle.ofit_order.proofs.members.members_of.Given as goal

abbrev pub invariant-loop-place : goal.invariant-loop-place
invariant-loop-place l = record {
  counted : length l.rows.items ≡ l.fn.count;
  parts : ArePartsBelow l.place l.components (rows_of l.rows.items);
}
