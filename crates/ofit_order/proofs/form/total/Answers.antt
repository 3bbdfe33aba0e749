use Rattle.std.proofs.Common.{slice_index, arith}
use Rattle.std.proofs.lemmas.List.Sums.{sum_by_more_le}
use Rattle.ofit_order.proofs.form.total.Goals as goal

pub overflow_add-sum : goal.overflow_add-sum
overflow_add-sum c =
    let more = sum_by_more_le (slice_index c.args.counts.now) c.args.members.now c.loop-member.member-index 0 c.loop-member-test.true in
    omega (arith, more)
