-- What `report` gives: the report of a study's fit.
use Rattle.std.specs.Prelude.{◌≡◌, ℕ, List}
use Rattle.ofit_study.specs.Study.{Study}
use Rattle.ofit_report.specs.ReportOf.{IsReportOf}
use Rattle.ofit_answer.specs.declared.answer.Answer.{Answer}
use Rattle.ofit_answer.specs.declared.answer.Answer.TheVariants.{Done}

abbrev pub ReportGives : Study → Answer → List ℕ → Type 0
ReportGives s answer text = (answer ≡ Done) × IsReportOf s text
