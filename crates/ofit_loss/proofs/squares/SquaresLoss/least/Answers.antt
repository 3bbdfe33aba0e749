use Rattle.std.proofs.Common.{arith, ap, unsigned_abs}
use Rattle.std.proofs.lemmas.Int.{ints}
use Rattle.ofit_num.specs.RowTotals.{total_weight}
use Rattle.ofit_loss.specs.Squares.{weighted_sum}
use Rattle.ofit_loss.proofs.Sizes.{weighted_limit}
use Rattle.ofit_loss.proofs.SquaresLeast.{weighs, replaced, least_minimiser, balances_within}
use Rattle.ofit_loss.proofs.squares.SquaresLoss.least.Goals as goal

pub unwrap-requires : goal.unwrap-requires
unwrap-requires c = c.make.ensures.small
    (omega (arith, ints, c.requires.pooled.1, weighs c.requires.rows c.requires.fittable.limits c.requires.some))
    (omega (arith, ints, c.requires.pooled.1, c.requires.fittable.limits.together))
    (omega (arith, ints, ap unsigned_abs c.requires.pooled.0, weighted_limit c.requires.rows c.requires.fittable.limits))

pub returns-clause-minimiser : goal.returns-clause-minimiser
returns-clause-minimiser c = λ rows pooled fit some.
    let r = rw c.unwrap.ensures at c.make.ensures.reduced in
    least_minimiser rows c.unwrap.result fit.limits some r.lowest.den
    (replaced c.unwrap.result.num (weighted_sum rows) _ _ c.unwrap.result.den (total_weight rows) r.same (omega (arith, ints, c.from.ensures, pooled.1)) (omega (arith, ints, pooled.0)))

pub returns-clause-balances : goal.returns-clause-balances
returns-clause-balances c = λ rows pooled fit some.
    let r = rw c.unwrap.ensures at c.make.ensures.in_limits in
    balances_within rows c.unwrap.result fit.limits r.num r.den
