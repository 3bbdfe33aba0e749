use Rattle.std.proofs.Common.{arith}
use Rattle.std.proofs.lemmas.Int.{ints}
use Rattle.ofit_num.proofs.Coprime.{same_lowest}
use Rattle.ofit_loss.proofs.SquaresLeast.{replaced}
use Rattle.ofit_loss.proofs.MedianLeast.{lowest_whole}
use Rattle.ofit_check.proofs.peak.steps.whole.Goals as goal

pub returns : goal.returns
returns c =
    let r = c.in-Some.ensures.reduced in
    same_lowest c.in-Some.fraction (record { num = c.args.value; den = 1 }) r.lowest (lowest_whole c.args.value)
    (replaced c.in-Some.fraction.num c.args.value _ _ c.in-Some.fraction.den 1 r.same (omega (arith, ints)) (omega (arith, ints, c.from.ensures)))
