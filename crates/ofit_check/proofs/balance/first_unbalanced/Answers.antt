use borrow.Author.Count.{below_more}
use Rattle.ofit_num.specs.Verdict.{IsBalanced}
use Rattle.ofit_study.specs.Study.{meaning_of, problem_stated}
use Rattle.ofit_check.proofs.balance.first_unbalanced.Goals as goal

pub loop-place-preserved : goal.loop-place-preserved
loop-place-preserved c =
    below_more (IsBalanced (meaning_of c.args.study.now.settings.loss) (problem_stated c.args.study.now) c.args.sheet.now) c.loop-place.place c.loop-place.invariant (c.is_balanced.ensures.0 c.if-not-is_balanced.false)
