use Rattle.std.proofs.Common.{arith, ◌^◌, to_z, of_z}
use Rattle.std.proofs.lemmas.Int.{ints}
use Rattle.std.specs.Int.{w128}
use Rattle.ofit_loss.proofs.Sizes.{product_of_le}
use Rattle.ofit_loss.proofs.squares.weighted.Goals as goal

pub returns-clause-size : goal.returns-clause-size
returns-clause-size c = product_of_le (to_z w128 (of_z w128 c.scaled.result)) (to_z w128 (of_z w128 c.from.result)) (to_z w128 (of_z w128 c.from-2.result)) c.args.row.now.value c.args.row.now.weight (10 ^ 9)
    (omega (arith, ints, c.scaled.ensures.exact)) (omega (arith, ints, c.from.ensures)) (omega (arith, ints, c.from-2.ensures)) c.requires.value
