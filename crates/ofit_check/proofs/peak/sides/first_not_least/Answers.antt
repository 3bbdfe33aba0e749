use Rattle.std.proofs.Common.{◌+◌, length, sym, ◌∙◌, true≢false, arith}
use Rattle.ofit_study.specs.Study.{names_of, problem_stated}
use Rattle.ofit_sheet.specs.PeakVerdict.{IsReached}
use Rattle.ofit_check.proofs.PeakSides.{first_short}
use Rattle.ofit_check.proofs.PeakSteps.{below_more}
use Rattle.ofit_check.proofs.peak.sides.first_not_least.Goals as goal

pub returns-then-not-is_reached : goal.returns-then-not-is_reached
returns-then-not-is_reached c =
    first_short (problem_stated c.args.study.now) c.args.peaked.now (length (names_of c.args.study.now) + 1) c.loop-length.length (omega (arith, c.group_count-length-end.ensures.count, c.loop-length-test.true)) c.loop-length.invariant
    (λ h. true≢false (sym (c.is_reached.ensures.1 h) ∙ c.if-not-is_reached.true))

pub loop-length-preserved : goal.loop-length-preserved
loop-length-preserved c = below_more (IsReached (problem_stated c.args.study.now) c.args.peaked.now) c.loop-length.length c.loop-length.invariant (c.is_reached.ensures.0 c.if-not-is_reached.false)
