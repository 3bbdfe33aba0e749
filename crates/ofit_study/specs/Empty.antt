-- The study of no rows.
use Rattle.std.specs.Prelude.{[]}
use Rattle.ofit_study.specs.declared.settings.Settings.{Settings}
use Rattle.ofit_study.specs.Study.{Study}

-- the study of no rows
abbrev pub empty_study : Settings → Study
empty_study settings = record { settings = settings; rows = []; pairs = [] }
