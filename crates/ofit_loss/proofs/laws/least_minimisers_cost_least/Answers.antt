use Rattle.ofit_loss.proofs.LeastMinimiser.{least_of_cheapest}
use Rattle.ofit_loss.proofs.laws.least_minimisers_cost_least.Goals as goal

pub returns : goal.returns
returns g c = λ rows d fit h. least_of_cheapest g.L.Loss.meaning g.L.Loss.STRICT g.met.L.Loss.laws rows fit d h
