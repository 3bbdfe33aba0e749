use Rattle.ofit_loss.proofs.SquaresLeast.{least_minimiser, mean_of}
use Rattle.ofit_loss.proofs.laws.squares_are_least_at_the_weighted_mean.Goals as goal

pub returns : goal.returns
returns c = λ rows d fit some den. (mean_of rows d, least_minimiser rows d fit.limits some den)
