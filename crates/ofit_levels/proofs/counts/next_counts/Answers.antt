use Rattle.std.proofs.Common.{◌+◌, ◌-◌, ◌*◌, ◌∙◌, ◌∷◌, replicate, slice_index, refl, arith, length-set}
use Rattle.ofit_levels.proofs.Recurrence.{level-fits}
use Rattle.ofit_levels.proofs.Rows.{first_level, later_level, row_begun, row_more}
use Rattle.ofit_levels.proofs.counts.next_counts.Goals as goal

pub overflow_mul-next : goal.overflow_mul-next
overflow_mul-next c =
    let e = first_level c.args.size c.from.result (slice_index c.args.counts.now 0) c.requires.some c.from.ensures (c.requires.counts 0 (omega arith)) in
    omega (arith, e, level-fits (c.args.size + 1) 1 (omega arith))

pub loop-place-init : goal.loop-place-init
loop-place-init c = (refl, row_begun (c.args.size + 1) ((c.from.result * slice_index c.args.counts.now 0) ∷ replicate 33 0) (first_level c.args.size c.from.result (slice_index c.args.counts.now 0) c.requires.some c.from.ensures (c.requires.counts 0 (omega arith))))

pub overflow_mul-next-in-loop-place : goal.overflow_mul-next-in-loop-place
overflow_mul-next-in-loop-place c =
    let p = c.loop-place.place in
    let e = later_level c.args.size p c.from-in-loop-place.result (slice_index c.args.counts.now (p - 1)) (slice_index c.args.counts.now p) (omega arith) c.from-in-loop-place.ensures (c.requires.counts (p - 1) (omega arith)) (c.requires.counts p (omega arith)) in
    omega (arith, e, level-fits (c.args.size + 1) (p + 1) (omega arith))

pub overflow_add-next : goal.overflow_add-next
overflow_add-next c =
    let p = c.loop-place.place in
    let e = later_level c.args.size p c.from-in-loop-place.result (slice_index c.args.counts.now (p - 1)) (slice_index c.args.counts.now p) (omega arith) c.from-in-loop-place.ensures (c.requires.counts (p - 1) (omega arith)) (c.requires.counts p (omega arith)) in
    omega (arith, e, level-fits (c.args.size + 1) (p + 1) (omega arith))

pub loop-place-preserved : goal.loop-place-preserved
loop-place-preserved c =
    let p = c.loop-place.place in
    let e = later_level c.args.size p c.from-in-loop-place.result (slice_index c.args.counts.now (p - 1)) (slice_index c.args.counts.now p) (omega arith) c.from-in-loop-place.ensures (c.requires.counts (p - 1) (omega arith)) (c.requires.counts p (omega arith)) in
    (length-set c.loop-place.next p _ ∙ c.loop-place.invariant.0, row_more (c.args.size + 1) p _ c.loop-place.next (omega (arith, c.loop-place.invariant.0)) c.loop-place.invariant.1 e)
