use Rattle.ofit_report.proofs.Once.{one_report}
use Rattle.ofit_report.proofs.StudyReport.{one_study_report}
use Rattle.ofit_report.proofs.laws.reports_are_told_in_one_way.Goals as goal

pub returns : goal.returns
returns c = record {
  values = λ s values a b lowest x y. one_report s values lowest a b x y;
  study = one_study_report;
}
