use Rattle.std.proofs.Common.{◌≡◌, ℕ, subst, arith}
use Rattle.ofit_report.specs.ReportText.{IsBlockRecord}
use Rattle.ofit_report.proofs.Listed.{IsWrittenUpto, none_written, one_written}
use Rattle.ofit_report.proofs.report.report_blocks.Goals as goal

pub loop-block-init : goal.loop-block-init
loop-block-init c = none_written (IsBlockRecord c.args.study.now c.args.values.now) c.args.writer.now

pub loop-block-preserved : goal.loop-block-preserved
loop-block-preserved c = one_written (IsBlockRecord c.args.study.now c.args.values.now) c.loop-block.block c.args.writer.now c.loop-block.writer c.report_block.new.writer c.loop-block.invariant c.in_ok-report_block.ensures

pub returns : goal.returns
returns c =
    let last : c.loop-block.block ≡ c.args.blocks = omega (arith, c.loop-block-test.false, c.loop-block.auto.block-end) in
    subst (λ (n : ℕ). IsWrittenUpto (IsBlockRecord c.args.study.now c.args.values.now) n c.args.writer.now c.loop-block.writer) last c.loop-block.invariant

pub report_block-requires-clause-block : goal.report_block-requires-clause-block
report_block-requires-clause-block c = (c.args.blocks, c.requires.blocks, c.loop-block-test.true)
