use Rattle.std.proofs.Common.{◌≡◌, ◌+◌}
use Rattle.ofit_study.specs.Study.{problem_stated, meaning_of}
use Rattle.ofit_fit.proofs.Fitted.{AreFitted}
use Rattle.ofit_fit.proofs.Counts.{AreCounted}
use Rattle.ofit_fit.proofs.study.fit_components.Given as goal

abbrev pub invariant-loop-component : goal.invariant-loop-component
invariant-loop-component l =
    AreFitted l.order (meaning_of l.study.settings.loss) (problem_stated l.study) l.component l.fitted.items × (l.tally.fits ≡ l.initial.tally.fits + l.component)
    × AreCounted l.order l.component l.initial.tally.cuts l.tally.cuts
