use Rattle.std.proofs.Common.{arith, pos, to_z, of_z}
use Rattle.std.proofs.lemmas.Int.{ints}
use Rattle.std.specs.Int.{w128}
use Rattle.ofit_loss.proofs.AbsoluteEnds.{least_above, least_below, greatest_above, greatest_below, from_greater, from_equal, from_less}
use Rattle.ofit_loss.proofs.median.ends.Goals as goal

pub returns-in-Greater-clause-least : goal.returns-in-Greater-clause-least
returns-in-Greater-clause-least c = omega (arith, ints, c.from-weight.ensures, least_above c.args.weight c.args.residual (omega (arith, ints, from_greater (to_z w128 (of_z w128 c.args.residual)) (pos 0) c.in-Greater.ensures)))

pub returns-in-Greater-clause-greatest : goal.returns-in-Greater-clause-greatest
returns-in-Greater-clause-greatest c = omega (arith, ints, c.from-weight.ensures, greatest_above c.args.weight c.args.residual (omega (arith, ints, from_greater (to_z w128 (of_z w128 c.args.residual)) (pos 0) c.in-Greater.ensures)))

pub returns-in-Equal-clause-least : goal.returns-in-Equal-clause-least
returns-in-Equal-clause-least c = omega (arith, ints, c.from-weight.ensures, least_below c.args.weight c.args.residual (omega (arith, ints, from_equal (to_z w128 (of_z w128 c.args.residual)) (pos 0) c.in-Equal.ensures)))

pub returns-in-Equal-clause-greatest : goal.returns-in-Equal-clause-greatest
returns-in-Equal-clause-greatest c = omega (arith, ints, c.from-weight.ensures, greatest_above c.args.weight c.args.residual (omega (arith, ints, from_equal (to_z w128 (of_z w128 c.args.residual)) (pos 0) c.in-Equal.ensures)))

pub returns-in-Less-clause-least : goal.returns-in-Less-clause-least
returns-in-Less-clause-least c = omega (arith, ints, c.from-weight.ensures, least_below c.args.weight c.args.residual (omega (arith, ints, from_less (to_z w128 (of_z w128 c.args.residual)) (pos 0) c.in-Less.ensures)))

pub returns-in-Less-clause-greatest : goal.returns-in-Less-clause-greatest
returns-in-Less-clause-greatest c = omega (arith, ints, c.from-weight.ensures, greatest_below c.args.weight c.args.residual (omega (arith, ints, from_less (to_z w128 (of_z w128 c.args.residual)) (pos 0) c.in-Less.ensures)))
