-- What `verify` gives: the verdict on a sheet of a study.
use Rattle.std.specs.Prelude.{◌≡◌, ℕ, List}
use Rattle.ofit_num.specs.Fit.{BestValues}
use Rattle.ofit_num.specs.Sheet as num
use Rattle.ofit_num.specs.Verdict.{IsVerdict}
use Rattle.ofit_study.specs.declared.settings.Settings.{Settings}
use Rattle.ofit_study.specs.Study.{Study, problem_stated, meaning_of}
use Rattle.ofit_check.specs.declared.verdict.Verdict.{Verdict}
use Rattle.ofit_check.specs.declared.verdict.Verdict.TheVariants as verdict
use Rattle.ofit_check.specs.Told.{told}
use Rattle.ofit_answer.specs.declared.answer.Answer.{Answer}
use Rattle.ofit_answer.specs.declared.answer.Answer.TheVariants.{Done, Fails}
use Rattle.ofit_answer.specs.VerdictText.{verdict_text}

-- a sheet that passes is done with; each other verdict is an answer of its own
abbrev pub answer_to : Verdict → Answer
answer_to verdict.Passes = Done
answer_to said = Fails said

-- The verdict is the first that holds, and the text is its line; where the sheet passes, its values are best.
pub record VerifyGives (s : Study) (sheet : num.Sheet Settings) (answer : Answer) (text : List ℕ) : Type 0 where
  pub said : Verdict
  pub first : IsVerdict (meaning_of s.settings.loss) (problem_stated s) s.settings sheet (told said)
  pub best : said ≡ verdict.Passes → BestValues (meaning_of s.settings.loss) (problem_stated s) (num.sheet_values sheet)
  pub answered : answer ≡ answer_to said
  pub line : text ≡ verdict_text s said
