use Rattle.ofit_loss.proofs.MaxMin.{best_max_min}
use Rattle.ofit_loss.proofs.laws.best_squares_are_max_min.Goals as goal

pub returns : goal.returns
returns c = λ s values free best g v at. best_max_min s values best free g v at
