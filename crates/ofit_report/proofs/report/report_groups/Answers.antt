use Rattle.std.proofs.Common.{◌≡◌, ℕ, subst, arith, length}
use Rattle.ofit_study.specs.Study.{names_of}
use Rattle.ofit_report.specs.ReportText.{IsGroupRecord}
use Rattle.ofit_report.proofs.Listed.{IsWrittenUpto, none_written, one_written}
use Rattle.ofit_report.proofs.report.report_groups.Goals as goal

pub loop-place-init : goal.loop-place-init
loop-place-init c = none_written (IsGroupRecord c.args.study.now c.args.values.now) c.args.writer.now

pub loop-place-preserved : goal.loop-place-preserved
loop-place-preserved c = one_written (IsGroupRecord c.args.study.now c.args.values.now) c.loop-place.place c.args.writer.now c.loop-place.writer c.report_group.new.writer c.loop-place.invariant c.in_ok-report_group.ensures

pub returns : goal.returns
returns c =
    let last : c.loop-place.place ≡ length (names_of c.args.study.now) = omega (arith, c.loop-place-test.false, c.loop-place.auto.place-end, c.group_count-place-end.ensures.count) in
    subst (λ (n : ℕ). IsWrittenUpto (IsGroupRecord c.args.study.now c.args.values.now) n c.args.writer.now c.loop-place.writer) last c.loop-place.invariant
