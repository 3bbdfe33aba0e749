use Rattle.std.proofs.Common.{sym, ◌∙◌, true≢false}
use Rattle.ofit_study.specs.Study.{problem_stated}
use Rattle.ofit_check.proofs.PeakSteps.{step_made, step_order, step_tight, step_span}
use Rattle.ofit_check.proofs.peak.steps.keeps_rules.Goals as goal

pub returns-then-not-keeps_order : goal.returns-then-not-keeps_order
returns-then-not-keeps_order c = (
  (λ yes. absurd (cc)),
  λ h. absurd (true≢false (sym (c.keeps_order.ensures.1 (step_order ((problem_stated c.args.study.now).rows c.args.place) c.args.side.now c.args.index c.args.slope h)) ∙ c.if-not-keeps_order.true)),
)

pub returns-then-not-joins_equal : goal.returns-then-not-joins_equal
returns-then-not-joins_equal c = (
  (λ yes. absurd (cc)),
  λ h. absurd (true≢false (sym (c.joins_equal.ensures.1 (step_tight ((problem_stated c.args.study.now).rows c.args.place) c.args.side.now c.args.index c.args.slope h)) ∙ c.if-not-joins_equal.true)),
)

pub returns : goal.returns
returns c = (
  (λ yes. step_made ((problem_stated c.args.study.now).rows c.args.place) c.args.side.now c.args.index c.args.slope (c.keeps_order.ensures.0 c.if-not-keeps_order.false) (c.joins_equal.ensures.0 c.if-not-joins_equal.false) (c.is_balanced.ensures.0 yes)),
  λ h. c.is_balanced.ensures.1 (step_span ((problem_stated c.args.study.now).rows c.args.place) c.args.side.now c.args.index c.args.slope h),
)
