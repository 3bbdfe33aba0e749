-- The sheet that is printed of a study's fit.
use Rattle.std.specs.Prelude.{◌≡◌, ℕ, List, Ok, IsSome, length}
use Rattle.ofit_num.specs.Fit.{LeastBestValues}
use Rattle.ofit_num.specs.Sheet as num
use Rattle.ofit_num.specs.Verdict.{Passes}
use Rattle.ofit_records.specs.Records.{records_of}
use Rattle.ofit_study.specs.declared.settings.Settings.{Settings}
use Rattle.ofit_study.specs.Study.{Study, names_of, problem_stated, meaning_of}
use Rattle.ofit_sheet.specs.Kept.{IsKept}
use Rattle.ofit_sheet.specs.SheetText.{sheet_text}
use Rattle.ofit_sheet.specs.SheetRead.{SheetRead}

-- The text is that of a sheet with a size, whose places and numbers are within their limits, and is read back as that sheet; it passes the checker, and its values are the least best ones of the study.
pub record IsFitOf (s : Study) (text : List ℕ) : Type 0 where
  pub sheet : num.Sheet Settings
  pub sized : IsSome sheet.size
  pub fits : num.FitsCount (length (names_of s)) sheet
  pub kept : IsKept sheet
  pub printed : text ≡ sheet_text (names_of s) sheet
  pub read_back : SheetRead (names_of s) (records_of text) (Ok sheet)
  pub passes : Passes (meaning_of s.settings.loss) (problem_stated s) s.settings sheet
  pub least_best : LeastBestValues (meaning_of s.settings.loss) (problem_stated s) (num.sheet_values sheet)
