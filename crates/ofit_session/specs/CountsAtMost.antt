-- How many fits an edit costs where memory ends.
use Rattle.std.specs.Prelude.{◌≡◌, ◌≤◌, ◌+◌, ◌⊎◌, ℕ, Ok}
use Rattle.ofit_num.specs.Tally.{Counts}
use Rattle.ofit_study.specs.declared.edit.Edit.{Edit}
use Rattle.ofit_study.specs.Edited.{Edited}
use Rattle.ofit_study.specs.Study.{Study}
use Rattle.ofit_session.specs.Refit.{IsRefit}

-- nothing was fitted, or the edit is one that the study takes and at most its touched components were fitted
abbrev pub CountsAtMost : Study → Edit → Counts → Counts → Type 0
CountsAtMost s edit before now =
    (now ≡ before) ⊎ ((after : Study) × (n : ℕ) × Edited s edit (Ok after) × IsRefit s edit after n × (now.fits ≤ before.fits + n))
