use Rattle.std.proofs.Common.{arith}
use Rattle.ofit_num.proofs.Spelled.{spelled_at_least, spelled_more}
use Rattle.ofit_num.proofs.whole.number_of.Goals as goal

pub returns-in-None : goal.returns-in-None
returns-in-None c = omega (arith, c.in-None.ensures, c.loop-digit.invariant, spelled_at_least c.args.digits.now c.loop-digit.digit-index c.loop-digit-test.true)

pub loop-digit-preserved : goal.loop-digit-preserved
loop-digit-preserved c = omega (arith, c.in-Some.ensures, c.loop-digit.invariant, spelled_more c.args.digits.now c.loop-digit.digit-index c.loop-digit-test.true)
