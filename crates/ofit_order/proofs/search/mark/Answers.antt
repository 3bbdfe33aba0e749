use Rattle.std.proofs.Common.{◌<◌, length, slice_index, arith}
use Rattle.std.proofs.lemmas.List.{take_more}
use Rattle.ofit_order.proofs.Seeing.{AreMarked-push}
use Rattle.ofit_order.proofs.search.mark.Goals as goal

pub loop-place-preserved : goal.loop-place-preserved
loop-place-preserved c =
    let at = c.loop-place.place-index in
    let lt = c.loop-place-test.true in
    let inside = c.requires at 0 lt in
    let in_range : slice_index c.args.places.now at < length c.loop-place.components = omega arith in
    rw (take_more c.args.places.now at 0 lt) (AreMarked-push c.args.components.now c.loop-place.components _ c.args.component _ in_range c.loop-place.invariant)
