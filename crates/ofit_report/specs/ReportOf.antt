-- The report of a study.
use Rattle.std.specs.Prelude.{ℕ, List, All}
use Rattle.ofit_num.specs.Fraction.{Fraction, IsLowest}
use Rattle.ofit_num.specs.Fit.{LeastBestValues}
use Rattle.ofit_study.specs.Study.{Study, problem_stated, meaning_of}
use Rattle.ofit_report.specs.ReportText.{ReportText}

-- The text is the report of the study with its least best values, in lowest terms.
pub record IsReportOf (s : Study) (text : List ℕ) : Type 0 where
  pub values : List Fraction
  pub least_best : LeastBestValues (meaning_of s.settings.loss) (problem_stated s) values
  pub lowest : All IsLowest values
  pub printed : ReportText s values text
