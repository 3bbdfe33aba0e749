use Rattle.std.proofs.Common.{◌^◌, arith, to_z, of_z}
use Rattle.std.proofs.lemmas.Int.{ints}
use Rattle.std.specs.Int.{w128}
use Rattle.std.specs.Prelude.{pos}
use Rattle.ofit_num.specs.declared.row.Row.{Row}
use Rattle.ofit_num.specs.Loss.{median}
use Rattle.ofit_num.proofs.TableScaling.{first_power}
use Rattle.ofit_report.proofs.Distances.{distances_more, weight_more, distances_cost}
use Rattle.ofit_report.proofs.Products.{reduces_as}
use Rattle.ofit_report.proofs.cost.absolute_cost.Goals as goal

abbrev none : Row
none = record { number = 0; value = pos 0; weight = 0 }

pub loop-row-preserved : goal.loop-row-preserved
loop-row-preserved c =
    let more = distances_more c.args.value.now c.args.rows.now c.loop-row.row-index none c.loop-row-test.true in
    let heavier = weight_more c.args.rows.now c.loop-row.row-index none c.loop-row-test.true in
    record {
      cost = omega (arith, ints, c.plus-cost.ensures.exact, c.distance_of.ensures.exact, c.loop-row.invariant.cost, more);
      size = omega (arith, c.distance_of.ensures.size, c.loop-row.invariant.size, more, heavier);
    }

pub returns-clause-cost : goal.returns-clause-cost
returns-clause-cost c =
    let value = c.args.value.now in
    reduces_as (to_z w128 c.loop-row.cost-bits) (to_z w128 (of_z w128 c.den.result)) (pos (median.cost c.args.rows.now value.num value.den)) (pos (value.den ^ 1)) _ c.lowest.ensures.reduced
    (omega (arith, ints, c.loop-row.invariant.cost, c.loop-row.cost-is, distances_cost value c.args.rows.now c.loop-row.row-index c.loop-row-test.false))
    (omega (arith, ints, c.den.ensures.value, first_power value.den))
