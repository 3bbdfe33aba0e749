use Rattle.std.proofs.Common.{arith}
use Rattle.std.proofs.lemmas.Int.{ints}
use Rattle.ofit_loss.proofs.SquaresLeast.{balance_of}
use Rattle.ofit_loss.proofs.squares.SquaresLoss.span.Goals as goal

pub returns-clause-least : goal.returns-clause-least
returns-clause-least c =
    omega (arith, ints, c.balance_at-balance.ensures, balance_of c.args.rows.now c.args.at.now.num c.args.at.now.den c.totals.result.sum c.totals.result.weight c.totals.ensures.sum c.totals.ensures.weight)

pub returns-clause-greatest : goal.returns-clause-greatest
returns-clause-greatest c =
    omega (arith, ints, c.balance_at-balance.ensures, balance_of c.args.rows.now c.args.at.now.num c.args.at.now.den c.totals.result.sum c.totals.result.weight c.totals.ensures.sum c.totals.ensures.weight)
