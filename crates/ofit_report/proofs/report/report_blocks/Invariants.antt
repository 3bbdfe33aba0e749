use Rattle.ofit_report.specs.ReportText.{IsBlockRecord}
use Rattle.ofit_report.proofs.Listed.{IsWrittenUpto}
use Rattle.ofit_report.proofs.report.report_blocks.Given as goal

abbrev pub invariant-loop-block : goal.invariant-loop-block
invariant-loop-block l = IsWrittenUpto (IsBlockRecord l.study l.values) l.block l.initial.writer l.writer
