use Rattle.std.proofs.Common.{arith}
use Rattle.ofit_sample.proofs.Making.{first_done, first_room, first_step}
use Rattle.ofit_sample.proofs.rows.add_first_rows.Goals as goal

pub add_drawn-requires : goal.add_drawn-requires
add_drawn-requires c = first_room c.args.job.now c.loop-place.place c.loop-place.study c.loop-place.generator.number c.loop-place.invariant (omega arith)

pub loop-place-preserved : goal.loop-place-preserved
loop-place-preserved c =
    first_step c.args.job.now c.loop-place.place c.loop-place.study c.add_drawn.new.study c.loop-place.generator.number c.add_drawn.new.generator.number (omega arith) c.loop-place.invariant (c.in_ok-add_drawn.ensures.added, c.in_ok-add_drawn.ensures.drawn)

pub returns : goal.returns
returns c = first_done c.args.job.now c.loop-place.place c.loop-place.study c.loop-place.generator.number (omega arith) c.loop-place.invariant
