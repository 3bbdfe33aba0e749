use Rattle.ofit_partition.proofs.Settles.{settle_more}
use Rattle.ofit_partition.proofs.work.settle.Goals as goal

pub loop-place-preserved : goal.loop-place-preserved
loop-place-preserved c = settle_more c.args.places.now c.loop-place.place-index c.args.value c.args.values.now.items c.loop-place.values.items c.loop-place-test.true (c.requires c.loop-place.place-index 0 c.loop-place-test.true) c.loop-place.invariant
