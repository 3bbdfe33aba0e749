-- A study has one report.
use Rattle.std.proofs.Common.{◌≡◌, ℕ, List, subst}
use Rattle.ofit_num.proofs.Unique.{unique_least_best}
use Rattle.ofit_num.specs.Fraction.{Fraction}
use Rattle.ofit_study.specs.Study.{Study, problem_stated, meaning_of}
use Rattle.ofit_report.specs.ReportOf.{IsReportOf}
use Rattle.ofit_report.specs.ReportText.{ReportText}
use Rattle.ofit_report.proofs.Once.{one_report}

pub one_study_report : (s : Study) (a b : List ℕ) → IsReportOf s a → IsReportOf s b → a ≡ b
one_study_report s a b x y =
    let values : y.values ≡ x.values = unique_least_best (meaning_of s.settings.loss) (problem_stated s) y.values x.values y.lowest x.lowest y.least_best x.least_best in
    one_report s x.values x.lowest a b x.printed (subst (λ (fs : List Fraction). ReportText s fs b) values y.printed)
