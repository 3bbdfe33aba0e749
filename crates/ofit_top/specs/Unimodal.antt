-- What `unimodal` gives: the peaked sheet of the fit of a study whose peak isn't known.
use Rattle.std.specs.Prelude.{◌≡◌, ℕ, List, Ok, length}
use Rattle.ofit_records.specs.Records.{records_of}
use Rattle.ofit_study.specs.Study.{Study, names_of, problem_stated}
use Rattle.ofit_sheet.specs.Peaked.{Peaked, IsShaped, IsInLimits}
use Rattle.ofit_sheet.specs.PeakedText.{peaked_text}
use Rattle.ofit_sheet.specs.PeakedRead.{PeakedRead}
use Rattle.ofit_sheet.specs.PeakVerdict.{IsPeakVerdict, passes}
use Rattle.ofit_sheet.specs.Unimodal.{PeakBest}
use Rattle.ofit_answer.specs.declared.answer.Answer.{Answer}
use Rattle.ofit_answer.specs.declared.answer.Answer.TheVariants.{Done}

-- The text is that of a peaked sheet with the shape of the study's, which is read back from the text as that sheet; it passes the checker, and its peak, cost and values are those of the best unimodal fit.
pub record IsPeakedOf (s : Study) (text : List ℕ) : Type 0 where
  pub peaked : Peaked
  pub shaped : IsShaped (length (names_of s)) peaked
  pub limits : IsInLimits peaked
  pub printed : text ≡ peaked_text (names_of s) peaked
  pub read_back : PeakedRead (names_of s) (records_of text) (Ok peaked)
  pub passed : IsPeakVerdict (problem_stated s) s.settings.places peaked passes
  pub best : PeakBest (problem_stated s) peaked.peak peaked.cost peaked.values

abbrev pub UnimodalGives : Study → Answer → List ℕ → Type 0
UnimodalGives s answer text = (answer ≡ Done) × IsPeakedOf s text
