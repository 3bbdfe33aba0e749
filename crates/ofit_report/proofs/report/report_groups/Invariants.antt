use Rattle.ofit_report.specs.ReportText.{IsGroupRecord}
use Rattle.ofit_report.proofs.Listed.{IsWrittenUpto}
use Rattle.ofit_report.proofs.report.report_groups.Given as goal

abbrev pub invariant-loop-place : goal.invariant-loop-place
invariant-loop-place l = IsWrittenUpto (IsGroupRecord l.study l.values) l.place l.initial.writer l.writer
