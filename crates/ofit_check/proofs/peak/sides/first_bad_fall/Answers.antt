use Rattle.std.proofs.Common.{sym, ◌∙◌}
use Rattle.ofit_study.specs.Study.{problem_stated}
use Rattle.ofit_study.proofs.Places.{group_count}
use Rattle.ofit_check.proofs.PeakSides.{fall_broken, fall_more}
use Rattle.ofit_check.proofs.peak.sides.first_bad_fall.Goals as goal

pub returns-in-Some : goal.returns-in-Some
returns-in-Some c =
    fall_broken (problem_stated c.args.study.now) c.args.peaked.now c.group_count-groups.result c.loop-start.start c.in-Some.index c.fall.result.now (c.group_count-groups.ensures.count ∙ sym (group_count c.args.study.now)) c.loop-start-test.true c.fall.ensures
    c.loop-start.invariant c.in-Some.ensures

pub loop-start-preserved : goal.loop-start-preserved
loop-start-preserved c =
    fall_more (problem_stated c.args.study.now) c.args.peaked.now c.group_count-groups.result c.loop-start.start c.fall.result.now (c.group_count-groups.ensures.count ∙ sym (group_count c.args.study.now)) c.fall.ensures c.loop-start.invariant c.in-None.ensures
