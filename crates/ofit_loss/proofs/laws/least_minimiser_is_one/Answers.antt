use Rattle.ofit_loss.proofs.LeastMinimiser.{same_least}
use Rattle.ofit_loss.proofs.laws.least_minimiser_is_one.Goals as goal

pub returns : goal.returns
returns g c = λ rows d e hd he. same_least g.L.Loss.meaning g.L.Loss.STRICT rows d e hd he
