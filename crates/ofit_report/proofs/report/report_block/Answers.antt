use Rattle.std.proofs.Common.{◌≡◌, ◌+◌, ◌<◌, ◌∙◌, sym, ap, subst, arith, List, length, slice_index}
use Rattle.std.proofs.lemmas.List.Elements.{Contains-get_or}
use Rattle.std.proofs.lemmas.Result.{on_ok_weaker}
use Rattle.std.specs.Prelude.{unsigned_abs}
use Rattle.ofit_num.specs.declared.row.Row.{Row}
use Rattle.ofit_num.specs.Fraction.{Fraction}
use Rattle.ofit_num.specs.RowLimits.{AreWithinLimits}
use Rattle.ofit_order.proofs.Uniqueness.{HasComponent-below}
use Rattle.ofit_study.specs.declared.settings.Settings.{Settings}
use Rattle.ofit_study.specs.Study.{names_of, meaning_of}
use Rattle.ofit_report.specs.Cost.{rows_among, IsCost}
use Rattle.ofit_report.specs.ReportText.{block_fields}
use Rattle.ofit_report.proofs.Ready.{IsReady, ready, value_is}
use Rattle.ofit_report.proofs.Reported.{block_record, block_mean}
use Rattle.ofit_report.proofs.report.report_block.Goals as goal

pub rows_of-requires : goal.rows_of-requires
rows_of-requires c =
    let s = c.args.study.now in
    let values = c.args.values.now in
    let members = c.members-members.result.now in
    let here : IsReady s values c.args.block members = ready s c.keeps_limits.ensures.valid values c.args.order.now c.requires.order c.args.block c.requires.block members c.members-members.ensures.members in
    λ i d l. here.inside _ (Contains-get_or members i d l)

pub bounds-members-0 : goal.bounds-members-0
bounds-members-0 c =
    let s = c.args.study.now in
    let values = c.args.values.now in
    let members = c.members-members.result.now in
    let here : IsReady s values c.args.block members = ready s c.keeps_limits.ensures.valid values c.args.order.now c.requires.order c.args.block c.requires.block members c.members-members.ensures.members in
    here.some

pub bounds-values-members : goal.bounds-values-members
bounds-values-members c =
    let s = c.args.study.now in
    let values = c.args.values.now in
    let members = c.members-members.result.now in
    let here : IsReady s values c.args.block members = ready s c.keeps_limits.ensures.valid values c.args.order.now c.requires.order c.args.block c.requires.block members c.members-members.ensures.members in
    let named : length values ≡ length (names_of s) = c.requires.count in
    omega (arith, here.inside (slice_index members 0) (Contains-get_or members 0 0 here.some), named)

pub cost_of-cost-requires-clause-limits : goal.cost_of-cost-requires-clause-limits
cost_of-cost-requires-clause-limits c =
    let s = c.args.study.now in
    let values = c.args.values.now in
    let members = c.members-members.result.now in
    let here : IsReady s values c.args.block members = ready s c.keeps_limits.ensures.valid values c.args.order.now c.requires.order c.args.block c.requires.block members c.members-members.ensures.members in
    let are_rows : c.as_slice.result.now ≡ rows_among s members = c.as_slice.ensures.value ∙ c.in_ok-rows.ensures in
    subst AreWithinLimits (sym are_rows) here.limits

pub cost_of-cost-requires-clause-some : goal.cost_of-cost-requires-clause-some
cost_of-cost-requires-clause-some c =
    let s = c.args.study.now in
    let values = c.args.values.now in
    let members = c.members-members.result.now in
    let here : IsReady s values c.args.block members = ready s c.keeps_limits.ensures.valid values c.args.order.now c.requires.order c.args.block c.requires.block members c.members-members.ensures.members in
    let are_rows : c.as_slice.result.now ≡ rows_among s members = c.as_slice.ensures.value ∙ c.in_ok-rows.ensures in
    omega (arith, here.filled, ap length are_rows)

pub cost_of-cost-requires-clause-value : goal.cost_of-cost-requires-clause-value
cost_of-cost-requires-clause-value c =
    let s = c.args.study.now in
    let values = c.args.values.now in
    let members = c.members-members.result.now in
    let here : IsReady s values c.args.block members = ready s c.keeps_limits.ensures.valid values c.args.order.now c.requires.order c.args.block c.requires.block members c.members-members.ensures.members in
    let named : length values ≡ length (names_of s) = c.requires.count in
    let inside : slice_index members 0 < length values = omega (arith, here.inside (slice_index members 0) (Contains-get_or members 0 0 here.some), named) in
    let is_value = value_is values (slice_index members 0) c.index-values-members.result inside c.index-values-members.is in
    let are_rows : c.as_slice.result.now ≡ rows_among s members = c.as_slice.ensures.value ∙ c.in_ok-rows.ensures in
    block_mean s values c.args.block members c.as_slice.result.now c.index-values-members.result here are_rows is_value c.requires.means c.settings.result.now.loss
    (ap (λ (x : Settings). x.loss) c.settings.ensures.settings) c.den-den.ensures.lowest

pub overflow_add-block : goal.overflow_add-block
overflow_add-block c =
    let counted = c.component_count-blocks.ensures.count in
    omega (arith, HasComponent-below c.args.order.now counted.0 c.args.block counted.1 c.requires.block, counted.2)

pub write_block-requires-clause-weight : goal.write_block-requires-clause-weight
write_block-requires-clause-weight c =
    let s = c.args.study.now in
    let values = c.args.values.now in
    let members = c.members-members.result.now in
    let here : IsReady s values c.args.block members = ready s c.keeps_limits.ensures.valid values c.args.order.now c.requires.order c.args.block c.requires.block members c.members-members.ensures.members in
    let are_rows : c.as_slice-2.result.now ≡ rows_among s members = c.as_slice-2.ensures.value ∙ c.in_ok-rows.ensures in
    (subst AreWithinLimits (sym are_rows) here.limits).together

pub returns : goal.returns
returns c =
    let s = c.args.study.now in
    let values = c.args.values.now in
    let members = c.members-members.result.now in
    let here : IsReady s values c.args.block members = ready s c.keeps_limits.ensures.valid values c.args.order.now c.requires.order c.args.block c.requires.block members c.members-members.ensures.members in
    let named : length values ≡ length (names_of s) = c.requires.count in
    let inside : slice_index members 0 < length values = omega (arith, here.inside (slice_index members 0) (Contains-get_or members 0 0 here.some), named) in
    let is_value = value_is values (slice_index members 0) c.index-values-members.result inside c.index-values-members.is in
    let are_rows : c.as_slice-2.result.now ≡ rows_among s members = c.as_slice-2.ensures.value ∙ c.in_ok-rows.ensures in
    let loss = c.settings.result.now.loss in
    let cost : Fraction = record { num = c.cost_of-cost.result.0; den = unsigned_abs c.cost_of-cost.result.1 } in
    on_ok_weaker c.write_block.result (λ e. (
      block_fields (c.args.block + 1) (length members) c.as_slice-2.result.now c.index-values-members.result cost,
      block_record s values c.args.block members c.as_slice-2.result.now c.index-values-members.result here are_rows is_value loss cost (ap (λ (x : Settings). x.loss) c.settings.ensures.settings)
          (subst (λ (rs : List Row). IsCost (meaning_of loss) rs c.index-values-members.result cost) (c.as_slice.ensures.value ∙ sym c.as_slice-2.ensures.value) c.cost_of-cost.ensures.cost),
      e,
    )) c.write_block.ensures
