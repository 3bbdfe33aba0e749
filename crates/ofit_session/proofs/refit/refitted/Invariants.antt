use Rattle.std.proofs.Common.{◌≡◌, ◌≤◌, ◌+◌, drop}
use Rattle.ofit_study.specs.Study.{meaning_of, problem_stated}
use Rattle.ofit_session.proofs.Refitting.{AreFittedBut}
use Rattle.ofit_session.proofs.refit.refitted.Given as goal

abbrev pub invariant-loop-component : goal.invariant-loop-component
invariant-loop-component l =
    AreFittedBut l.order (meaning_of l.study.settings.loss) (problem_stated l.study) (drop l.component-index l.components) l.values.items
    × (l.tally.fits ≡ l.initial.tally.fits + l.component-index)
    × (l.initial.tally.cuts ≤ l.tally.cuts)
    × (l.tally.cuts + l.initial.tally.fits ≤ l.initial.tally.cuts + l.tally.fits)
