use Rattle.std.proofs.Common.{◌≡◌, ◌≤◌, ◌^◌, ◌-ℤ◌, ◌*ℤ◌, pos, unsigned_abs, ap₂, arith, FitsSigned, to_z, of_z, rules, ◌∙◌}
use Rattle.std.specs.Int.{w128}
use Rattle.std.proofs.lemmas.Int.{ints, to_z-of_z}
use Rattle.ofit_report.proofs.Products.{at_most}
use Rattle.ofit_report.proofs.cost.residual_of.Goals as goal

pub returns-clause-exact : goal.returns-clause-exact
returns-clause-exact c =
    let left : to_z w128 (of_z w128 c.product.result) ≡ pos c.args.value.now.den *ℤ c.args.row.now.value = search rules in
    let right : to_z w128 (of_z w128 c.num.result) ≡ c.args.value.now.num = search rules in
    let fits : FitsSigned w128 (to_z w128 (of_z w128 c.product.result) -ℤ to_z w128 (of_z w128 c.num.result)) = search rules in
    to_z-of_z w128 (to_z w128 (of_z w128 c.product.result) -ℤ to_z w128 (of_z w128 c.num.result)) fits ∙ ap₂ (λ x y. x -ℤ y) left right

pub returns-clause-size : goal.returns-clause-size
returns-clause-size c =
    let most : unsigned_abs (to_z w128 (of_z w128 c.den.result)) ≤ 10 ^ 12 = omega (arith, ints, c.den.ensures.value, c.den.ensures.in_limits) in
    let from : unsigned_abs (to_z w128 (of_z w128 c.from.result)) ≤ 10 ^ 9 = omega (arith, ints, c.from.ensures, c.requires) in
    let product : unsigned_abs c.product.result ≤ 10 ^ 21 =
    omega (arith, c.product.ensures.size, at_most (unsigned_abs (to_z w128 (of_z w128 c.den.result))) (unsigned_abs (to_z w128 (of_z w128 c.from.result))) (10 ^ 12) (10 ^ 9) (10 ^ 21) most from (omega arith)) in
    omega (arith, ints, product, c.num.ensures.in_limits)
