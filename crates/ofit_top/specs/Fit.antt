-- What `fit` gives: the sheet of a study's fit.
use Rattle.std.specs.Prelude.{◌≡◌, ℕ, List}
use Rattle.ofit_study.specs.Study.{Study}
use Rattle.ofit_answer.specs.declared.answer.Answer.{Answer}
use Rattle.ofit_answer.specs.declared.answer.Answer.TheVariants.{Done}
pub use Rattle.ofit_cert.specs.FitSheet.{IsFitOf}

abbrev pub FitGives : Study → Answer → List ℕ → Type 0
FitGives s answer text = (answer ≡ Done) × IsFitOf s text
