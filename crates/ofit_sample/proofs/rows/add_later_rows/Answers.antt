use Rattle.std.proofs.Common.{◌-◌, arith}
use Rattle.ofit_sample.proofs.Making.{later_begun, later_done, later_more_made, later_room, later_step}
use Rattle.ofit_sample.proofs.rows.add_later_rows.Goals as goal

pub loop-row-init : goal.loop-row-init
loop-row-init c = later_begun c.args.job.now (c.args.job.now.groups - c.args.job.now.groups) c.args.study.now c.args.generator.now.number (omega arith) c.requires.underway

pub add_drawn-requires : goal.add_drawn-requires
add_drawn-requires c = later_room c.args.job.now (c.loop-row._row - c.args.job.now.groups) c.draw-place.result c.loop-row.study c.loop-row.generator.number c.loop-row.invariant (omega arith) (omega arith)

pub loop-row-preserved : goal.loop-row-preserved
loop-row-preserved c =
    let job = c.args.job.now in
    let k = c.loop-row._row - job.groups in
    later_more_made job c.loop-row._row c.add_drawn.new.study c.add_drawn.new.generator.number (omega arith)
    (later_step job k c.loop-row.study c.add_drawn.new.study c.loop-row.generator.number c.draw-place.new.self.number c.add_drawn.new.generator.number c.draw-place.result (omega arith) c.loop-row.invariant c.draw-place.ensures.next c.draw-place.ensures.drawn (c.in_ok-add_drawn.ensures.added, c.in_ok-add_drawn.ensures.drawn))

pub returns : goal.returns
returns c = later_done c.args.job.now c.loop-row._row c.loop-row.study c.loop-row.generator.number (omega arith) c.loop-row.invariant
