use Rattle.ofit_flow.proofs.Optimal.{value-le-capacity}
use Rattle.ofit_flow.proofs.laws.weak_duality.Goals as goal

pub returns : goal.returns
returns c = value-le-capacity
