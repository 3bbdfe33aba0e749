use Rattle.std.proofs.Common.{arith}
use Rattle.ofit_num.proofs.Scaled.{zeros_step, zeros_grow}
use Rattle.ofit_num.proofs.decimal.digits.with_zeros.Goals as goal

pub returns-in-None : goal.returns-in-None
returns-in-None c = omega (arith, c.in-None.ensures, c.loop.invariant.value, zeros_grow c.args.number c.loop.counter c.args.zeros c.loop-test.true)

pub loop-preserved : goal.loop-preserved
loop-preserved c = record {
  value = omega (arith, c.in-Some.ensures, c.loop.invariant.value, zeros_step c.args.number c.loop.counter);
  in_limit = omega (arith, c.in-Some.ensures);
}
