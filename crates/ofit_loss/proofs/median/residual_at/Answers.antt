use Rattle.std.proofs.Common.{arith, to_z, of_z}
use Rattle.std.proofs.lemmas.Int.{ints}
use Rattle.std.specs.Int.{w128}
use Rattle.ofit_loss.proofs.AbsoluteEnds.{residual_from}
use Rattle.ofit_loss.proofs.median.residual_at.Goals as goal

pub returns : goal.returns
returns c = omega (
  arith,
  ints,
  residual_from c.scaled.result (to_z w128 (of_z w128 c.from.result)) (to_z w128 (of_z w128 c.den.result)) c.num.result c.args.row.now.value c.args.at.now.num c.args.at.now.den
      c.scaled.ensures.exact (omega (arith, ints, c.from.ensures)) (omega (arith, ints, c.den.ensures.value)) c.num.ensures.value,
)
