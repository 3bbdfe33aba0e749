use Rattle.std.proofs.Common.{◌∙◌, sym, arith, true≢false}
use borrow.Author.Count.{below_more}
use Rattle.ofit_check.specs.Check.{IsAtPlace}
use Rattle.ofit_check.proofs.Missing.{missing, present}
use Rattle.ofit_check.proofs.values.first_missing.Goals as goal

pub returns-then-not-is_at_place : goal.returns-then-not-is_at_place
returns-then-not-is_at_place c =
    missing c.args.groups c.args.sheet.now c.requires c.loop-place.place c.loop-place-test.true c.loop-place.invariant
    (λ h. true≢false (sym (c.is_at_place.ensures.1 h) ∙ c.if-not-is_at_place.true))

pub loop-place-preserved : goal.loop-place-preserved
loop-place-preserved c = below_more (IsAtPlace c.args.sheet.now) c.loop-place.place c.loop-place.invariant (c.is_at_place.ensures.0 c.if-not-is_at_place.false)

pub returns : goal.returns
returns c = λ k l. present c.args.groups c.args.sheet.now c.requires k (c.loop-place.invariant k (omega (arith, l, c.loop-place-test.false)))
