use Rattle.std.proofs.Common.{◌≡◌, ap, ◌∙◌, arith, rules, take, FitsSigned, to_z, of_z}
use Rattle.std.proofs.lemmas.Int.{to_z-of_z}
use Rattle.std.specs.Int.{w64}
use Rattle.std.specs.Prelude.{ℤ, pos}
use Rattle.ofit_num.specs.declared.row.Row.{Row}
use Rattle.ofit_num.specs.Loss.{row_sum}
use Rattle.ofit_check.specs.PeakSteps.{distance}
use Rattle.ofit_check.proofs.PeakCosts.{distances_more, weight_more, distances_cost}
use Rattle.ofit_check.proofs.peak.cost.cost_of.Goals as goal

abbrev none : Row
none = record { number = 0; value = pos 0; weight = 0 }

pub loop-row-preserved : goal.loop-row-preserved
loop-row-preserved c =
    let value = to_z w64 (of_z w64 c.args.value) in
    let more = distances_more value c.args.rows.now c.loop-row.row-index none c.loop-row-test.true in
    let heavier = weight_more c.args.rows.now c.loop-row.row-index none c.loop-row-test.true in
    record {
      exact = omega (arith, c.distance_of-cost.ensures.exact, c.loop-row.invariant.exact, more);
      most = omega (arith, c.distance_of-cost.ensures.most, c.loop-row.invariant.most, heavier);
    }

pub returns-clause-exact : goal.returns-clause-exact
returns-clause-exact c =
    let fits : FitsSigned w64 c.args.value = search rules in
    let plain : to_z w64 (of_z w64 c.args.value) ≡ c.args.value = to_z-of_z w64 c.args.value fits in
    c.loop-row.invariant.exact ∙ ap (λ (z : ℤ). row_sum (distance z) (take c.loop-row.row-index c.args.rows.now)) plain ∙ distances_cost c.args.value c.args.rows.now c.loop-row.row-index c.loop-row-test.false
