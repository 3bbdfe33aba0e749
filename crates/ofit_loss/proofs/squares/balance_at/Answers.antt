use Rattle.std.proofs.Common.{◌≡◌, ◌-ℤ◌, ◌*ℤ◌, pos, ap₂, FitsSigned, to_z, of_z, rules, ◌∙◌}
use Rattle.std.specs.Int.{w128}
use Rattle.std.proofs.lemmas.Int.{to_z-of_z}
use Rattle.ofit_loss.proofs.squares.balance_at.Goals as goal

pub returns : goal.returns
returns c =
    let left : to_z w128 (of_z w128 c.scaled.result) ≡ c.args.all.sum *ℤ pos c.args.at.now.den = search rules in
    let right : to_z w128 (of_z w128 c.scaled-2.result) ≡ c.args.at.now.num *ℤ pos c.args.all.weight = search rules in
    let fits : FitsSigned w128 (to_z w128 (of_z w128 c.scaled.result) -ℤ to_z w128 (of_z w128 c.scaled-2.result)) = search rules in
    to_z-of_z w128 (to_z w128 (of_z w128 c.scaled.result) -ℤ to_z w128 (of_z w128 c.scaled-2.result)) fits ∙ ap₂ (λ x y. x -ℤ y) left right
