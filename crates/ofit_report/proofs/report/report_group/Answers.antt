use Rattle.std.proofs.Common.{◌<◌, sym, ap, subst, arith, length}
use Rattle.std.proofs.lemmas.Result.{on_ok_weaker}
use Rattle.ofit_num.proofs.RowLists.{group_within}
use Rattle.ofit_study.specs.declared.settings.Settings.{Settings}
use Rattle.ofit_study.specs.Study.{groups_of}
use Rattle.ofit_study.proofs.Stating.{rows_within}
use Rattle.ofit_report.specs.ReportText.{group_fields, IsRoundedDown}
use Rattle.ofit_report.proofs.Ready.{value_is}
use Rattle.ofit_report.proofs.Reported.{group_record}
use Rattle.ofit_report.proofs.report.report_group.Goals as goal

pub write_group-requires : goal.write_group-requires
write_group-requires c =
    let s = c.args.study.now in
    (group_within (groups_of s) c.args.place c.rows_of.result.now c.rows_of.ensures (rows_within s c.keeps_limits.ensures.valid)).together

pub returns : goal.returns
returns c =
    let s = c.args.study.now in
    let values = c.args.values.now in
    let place = c.args.place in
    let value = c.index-values-place.result in
    let places = c.settings.result.now.places in
    let inside : place < length values = omega (arith, c.requires.place, c.requires.count) in
    let down : IsRoundedDown value places c.as_slice.result.now = subst (IsRoundedDown value places) (sym c.as_slice.ensures.value) c.in_ok-decimal.ensures in
    on_ok_weaker c.write_group.result (λ e. (
      group_fields c.group_name.result.now c.rows_of.result.now c.block_of.result value c.as_slice.result.now,
      group_record s values place c.group_name.result.now c.rows_of.result.now c.block_of.result value c.as_slice.result.now places c.group_name.ensures c.rows_of.ensures c.block_of.ensures
          (value_is values place value inside c.index-values-place.is) (ap (λ (x : Settings). x.places) c.settings.ensures.settings) down,
      e,
    )) c.write_group.ensures
