use Rattle.std.proofs.Common.{◌≡◌, ℕ, sym, to_z, of_z, arith}
use Rattle.std.proofs.lemmas.Int.{ints}
use Rattle.std.specs.Int.{w128}
use Rattle.std.specs.Prelude.{ℤ, pos, ◌*ℤ◌}
use Rattle.ofit_num.specs.RowTotals.{total_weight}
use Rattle.ofit_loss.specs.Squares.{weighted_sum}
use Rattle.ofit_report.specs.BlockMeans.{IsMean}
use Rattle.ofit_report.proofs.Costs.{weight_some, mean_spread, mean_reduces, whole_small, whole_least, whole_reduces}
use Rattle.ofit_report.proofs.cost.squared_cost.Goals as goal

-- sums of rows in place of the rows
summed : (num sum all : ℤ) (den weight total : ℕ) → weight ≡ total → sum ≡ all → num *ℤ pos weight ≡ sum *ℤ pos den → num *ℤ pos total ≡ all *ℤ pos den
summed num sum all den weight total e f h = cc

pub cost_at_mean-requires-clause-least_weight : goal.cost_at_mean-requires-clause-least_weight
cost_at_mean-requires-clause-least_weight c = omega (arith, weight_some c.args.rows.now c.args.value.now c.requires.limits c.requires.some c.is_mean.ensures.den, c.sums_of-all.ensures.weight)

pub cost_at_mean-requires-clause-spread : goal.cost_at_mean-requires-clause-spread
cost_at_mean-requires-clause-spread c =
    let rows = c.args.rows.now in
    let value = c.args.value.now in
    let all = c.sums_of-all in
    let mean : IsMean rows value = summed value.num all.result.sum (weighted_sum rows) value.den all.result.weight (total_weight rows) all.ensures.weight all.ensures.sum c.if-is_mean.ensures.mean in
    mean_spread rows value c.requires.limits c.requires.some c.is_mean.ensures.den mean all.result.squares all.result.sum all.result.weight all.ensures.squares all.ensures.sum all.ensures.weight

pub returns-then-is_mean-clause-cost : goal.returns-then-is_mean-clause-cost
returns-then-is_mean-clause-cost c =
    let rows = c.args.rows.now in
    let value = c.args.value.now in
    let all = c.sums_of-all in
    let mean : IsMean rows value = summed value.num all.result.sum (weighted_sum rows) value.den all.result.weight (total_weight rows) all.ensures.weight all.ensures.sum c.if-is_mean.ensures.mean in
    mean_reduces rows value c.requires.limits c.requires.some c.is_mean.ensures.den mean all.result.squares all.result.sum all.result.weight _ all.ensures.squares all.ensures.sum all.ensures.weight c.cost_at_mean.ensures.reduced

pub cost_at_whole-requires-clause-value : goal.cost_at_whole-requires-clause-value
cost_at_whole-requires-clause-value c =
    let rows = c.args.rows.now in
    let value = c.args.value.now in
    let all = c.sums_of-all in
    let differs : IsMean rows value → ⊥ = λ mean. c.if-is_mean.ensures.mean (summed value.num (weighted_sum rows) all.result.sum value.den (total_weight rows) all.result.weight (sym all.ensures.weight) (sym all.ensures.sum) mean) in
    whole_small rows value c.requires.limits c.requires.some c.is_mean.ensures.den c.requires.value differs all.result.squares all.result.sum (to_z w128 (of_z w128 c.num.result)) all.result.weight
    all.ensures.squares all.ensures.sum all.ensures.weight (omega (arith, ints, c.num.ensures.value))

pub cost_at_whole-requires-clause-cost : goal.cost_at_whole-requires-clause-cost
cost_at_whole-requires-clause-cost c =
    let rows = c.args.rows.now in
    let value = c.args.value.now in
    let all = c.sums_of-all in
    let differs : IsMean rows value → ⊥ = λ mean. c.if-is_mean.ensures.mean (summed value.num (weighted_sum rows) all.result.sum value.den (total_weight rows) all.result.weight (sym all.ensures.weight) (sym all.ensures.sum) mean) in
    whole_least rows value c.requires.limits c.requires.some c.is_mean.ensures.den c.requires.value differs all.result.squares all.result.sum (to_z w128 (of_z w128 c.num.result)) all.result.weight
    all.ensures.squares all.ensures.sum all.ensures.weight (omega (arith, ints, c.num.ensures.value))

pub returns-else-is_mean-clause-cost : goal.returns-else-is_mean-clause-cost
returns-else-is_mean-clause-cost c =
    let rows = c.args.rows.now in
    let value = c.args.value.now in
    let all = c.sums_of-all in
    let differs : IsMean rows value → ⊥ = λ mean. c.if-is_mean.ensures.mean (summed value.num (weighted_sum rows) all.result.sum value.den (total_weight rows) all.result.weight (sym all.ensures.weight) (sym all.ensures.sum) mean) in
    whole_reduces rows value c.requires.limits c.requires.some c.is_mean.ensures.den c.requires.value differs all.result.squares all.result.sum (to_z w128 (of_z w128 c.num.result)) all.result.weight
    all.ensures.squares all.ensures.sum all.ensures.weight (omega (arith, ints, c.num.ensures.value)) _ c.cost_at_whole.ensures.reduced
