use Rattle.std.proofs.Common.{ℕ, ◌+◌}
use Rattle.ofit_study.specs.Study.{problem_stated}
use Rattle.ofit_check.specs.PeakSteps.{IsStep}
use Rattle.ofit_check.proofs.PeakSteps.{below_more}
use Rattle.ofit_check.proofs.peak.steps.first_broken.Goals as goal

pub loop-index-preserved : goal.loop-index-preserved
loop-index-preserved c =
    below_more (λ (k : ℕ). IsStep c.args.slope ((problem_stated c.args.study.now).rows (c.args.start + k)) c.args.side.now k) c.loop-index.index c.loop-index.invariant (c.keeps_rules.ensures.0 c.if-not-keeps_rules.false)
