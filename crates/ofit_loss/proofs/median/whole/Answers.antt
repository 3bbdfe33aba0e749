use Rattle.std.proofs.Common.{arith}
use Rattle.std.proofs.lemmas.Int.{ints}
use Rattle.ofit_num.proofs.Coprime.{same_lowest}
use Rattle.ofit_loss.proofs.SquaresLeast.{replaced}
use Rattle.ofit_loss.proofs.MedianLeast.{lowest_whole}
use Rattle.ofit_loss.proofs.median.whole.Goals as goal

pub returns : goal.returns
returns c =
    let r = rw c.unwrap.ensures at c.make.ensures.reduced in
    same_lowest c.unwrap.result (record { num = c.args.value; den = 1 }) r.lowest (lowest_whole c.args.value)
    (replaced c.unwrap.result.num c.args.value _ _ c.unwrap.result.den 1 r.same (omega (arith, ints)) (omega (arith, ints, c.from.ensures)))
