use Rattle.std.proofs.Common.{◌≡◌, take, slice_index}
use Rattle.std.specs.List.{sum_by}
use Rattle.ofit_order.proofs.form.total.Given as goal

abbrev pub invariant-loop-member : goal.invariant-loop-member
invariant-loop-member l = l.sum ≡ sum_by (slice_index l.counts) (take l.member-index l.members)
