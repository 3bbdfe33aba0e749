use Rattle.std.proofs.Common.{sym, ◌∙◌}
use Rattle.ofit_study.specs.Study.{problem_stated}
use Rattle.ofit_study.proofs.Places.{group_count}
use Rattle.ofit_check.proofs.PeakSides.{rise_broken, rise_more}
use Rattle.ofit_check.proofs.peak.sides.first_bad_rise.Goals as goal

pub returns-in-Some : goal.returns-in-Some
returns-in-Some c =
    rise_broken (problem_stated c.args.study.now) c.args.peaked.now c.group_count-index-end.result c.loop-index.index c.in-Some.place c.rise.result.now (c.group_count-index-end.ensures.count ∙ sym (group_count c.args.study.now)) c.loop-index-test.true c.rise.ensures
    c.loop-index.invariant c.in-Some.ensures

pub loop-index-preserved : goal.loop-index-preserved
loop-index-preserved c = rise_more (problem_stated c.args.study.now) c.args.peaked.now c.loop-index.index c.rise.result.now c.rise.ensures c.loop-index.invariant c.in-None.ensures
