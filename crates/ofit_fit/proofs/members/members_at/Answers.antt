use Rattle.std.proofs.Common.{arith, slice_index, refl}
use Rattle.ofit_fit.proofs.Putting.{mapped_more, mapped_all}
use Rattle.ofit_fit.proofs.members.members_at.Goals as goal

pub loop-position-preserved : goal.loop-position-preserved
loop-position-preserved c = mapped_more (slice_index c.args.members.now) c.args.positions.now c.loop-position.position-index c.loop-position.places.items _ _ (omega arith) refl c.in_ok-push.ensures.items c.loop-position.invariant

pub returns : goal.returns
returns c = mapped_all (slice_index c.args.members.now) c.args.positions.now c.loop-position.position-index c.loop-position.places.items (omega arith) c.loop-position.invariant
