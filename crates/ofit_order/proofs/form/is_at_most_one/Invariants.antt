use Rattle.std.proofs.Common.{ℕ, ◌<◌, ◌≤◌, slice_index}
use Rattle.ofit_order.proofs.form.is_at_most_one.Given as goal

abbrev pub invariant-loop-member : goal.invariant-loop-member
invariant-loop-member l = (k : ℕ) → k < l.member-index → slice_index l.counts (slice_index l.members k) ≤ 1
