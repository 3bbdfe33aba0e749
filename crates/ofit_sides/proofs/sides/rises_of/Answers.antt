use Rattle.std.proofs.Common.{◌<◌, length, sym, ap, subst, arith}
use Rattle.std.proofs.lemmas.Result.{IfOk-weaker}
use Rattle.std.specs.Prelude.{All}
use Rattle.ofit_num.specs.Groups.{RowLists}
use Rattle.ofit_num.specs.RowTotals.{all_rows}
use Rattle.ofit_loss.specs.Rows.{AreFittable}
use Rattle.ofit_span.proofs.Fittable.{all_fittable}
use Rattle.ofit_study.proofs.Places.{group_count}
use Rattle.ofit_study.proofs.Stating.{groups_filled}
use Rattle.ofit_sides.proofs.Making.{stated_rises}
use Rattle.ofit_sides.proofs.sides.rises_of.Goals as goal

pub rises_along-requires-clause-few : goal.rises_along-requires-clause-few
rises_along-requires-clause-few c = omega (arith, ap (λ (gs : RowLists). length gs) c.in_ok-groups.ensures, group_count c.args.study.now, c.requires)

pub rises_along-requires-clause-filled : goal.rises_along-requires-clause-filled
rises_along-requires-clause-filled c = subst (All (λ rows. 0 < length rows)) (sym c.in_ok-groups.ensures) (groups_filled c.args.study.now)

pub rises_along-requires-clause-fittable : goal.rises_along-requires-clause-fittable
rises_along-requires-clause-fittable c = subst (λ (gs : RowLists). AreFittable (all_rows gs)) (sym c.in_ok-groups.ensures) (all_fittable c.args.study.now c.keeps_limits.ensures.valid)

pub returns : goal.returns
returns c = record {
  rises = IfOk-weaker c.rises_along.result _ _ (λ sides h. stated_rises c.args.study.now c.in_ok-groups.groups sides.items c.in_ok-groups.ensures h) c.rises_along.ensures;
}
