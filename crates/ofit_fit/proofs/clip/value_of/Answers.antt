use Rattle.std.proofs.Common.{arith}
use Rattle.std.proofs.lemmas.Int.{ints}
use Rattle.ofit_num.proofs.Coprime.{same_lowest}
use Rattle.ofit_loss.proofs.SquaresLeast.{replaced}
use Rattle.ofit_loss.proofs.MedianLeast.{lowest_whole}
use Rattle.ofit_fit.proofs.clip.value_of.Goals as goal

pub returns : goal.returns
returns c =
    let r = rw c.unwrap.ensures at c.make.ensures.reduced in
    same_lowest c.unwrap.result (record { num = c.args.bound; den = 1 }) r.lowest (lowest_whole c.args.bound)
    (replaced c.unwrap.result.num c.args.bound _ _ c.unwrap.result.den 1 r.same (omega (arith, ints)) (omega (arith, ints, c.from.ensures)))
