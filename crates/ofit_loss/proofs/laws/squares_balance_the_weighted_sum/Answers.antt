use Rattle.ofit_loss.proofs.SquaresLeast.{balance}
use Rattle.ofit_loss.proofs.laws.squares_balance_the_weighted_sum.Goals as goal

pub returns-clause-least : goal.returns-clause-least
returns-clause-least c = balance
