use Rattle.ofit_report.proofs.Among.{among_more}
use Rattle.ofit_report.proofs.rows.rows_of.Goals as goal

pub loop-place-preserved : goal.loop-place-preserved
loop-place-preserved c = among_more c.args.study.now c.args.members.now c.loop-place.place-index c.loop-place.rows.items c.rows_of.result.now c.extend_from_slice.new.self.items c.loop-place-test.true c.rows_of.ensures c.loop-place.invariant c.in_ok-extend_from_slice.ensures.items
