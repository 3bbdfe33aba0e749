-- What `verify-unimodal` gives: the verdict on a peaked sheet of a study.
use Rattle.std.specs.Prelude.{◌≡◌, ℕ, List}
use Rattle.ofit_study.specs.Study.{Study, problem_stated}
use Rattle.ofit_sheet.specs.Peaked.{Peaked}
use Rattle.ofit_sheet.specs.PeakVerdict.{IsPeakVerdict}
use Rattle.ofit_check.specs.declared.peak.verdict.PeakVerdict.{PeakVerdict}
use Rattle.ofit_check.specs.declared.peak.verdict.PeakVerdict.TheVariants as verdict
use Rattle.ofit_check.specs.Peak.{peak_told, IsBestOfPeaks}
use Rattle.ofit_answer.specs.declared.answer.Answer.{Answer}
use Rattle.ofit_answer.specs.declared.answer.Answer.TheVariants.{Done, FailsPeak}
use Rattle.ofit_answer.specs.PeakVerdictText.{peak_verdict_text}

-- a peaked sheet that passes is done with; each other verdict is an answer of its own
abbrev pub peak_answer_to : PeakVerdict → Answer
peak_answer_to verdict.Passes = Done
peak_answer_to said = FailsPeak said

-- The verdict is the first that holds, and the text is its line; where the sheet passes, its values are unimodal with its peak, and no unimodal values cost less.
pub record VerifyUnimodalGives (s : Study) (x : Peaked) (answer : Answer) (text : List ℕ) : Type 0 where
  pub said : PeakVerdict
  pub first : IsPeakVerdict (problem_stated s) s.settings.places x (peak_told said)
  pub best : said ≡ verdict.Passes → IsBestOfPeaks (problem_stated s) x
  pub answered : answer ≡ peak_answer_to said
  pub line : text ≡ peak_verdict_text s said
