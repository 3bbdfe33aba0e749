use Rattle.std.proofs.Common.{arith}
use Rattle.ofit_num.proofs.Scaled.{spelled_up_to, spelled_front}
use Rattle.ofit_num.proofs.decimal.digits.spelled.Goals as goal

pub returns-in-None : goal.returns-in-None
returns-in-None c = omega (arith, c.in-None.ensures, c.loop-digit.invariant.value, spelled_front c.args.number c.args.digits.now c.loop-digit.digit-index c.loop-digit-test.true)

pub loop-digit-preserved : goal.loop-digit-preserved
loop-digit-preserved c = record {
  value = omega (arith, c.in-Some.ensures, c.loop-digit.invariant.value, spelled_up_to c.args.number c.args.digits.now c.loop-digit.digit-index c.loop-digit-test.true);
  in_limit = omega (arith, c.in-Some.ensures);
}
