use Rattle.std.proofs.Common.{arith}
use Rattle.std.proofs.lemmas.Int.{ints}
use Rattle.ofit_flow.proofs.Optimal.{minimum_from_equal, value-le-capacity}
use Rattle.ofit_flow.proofs.laws.equal_is_optimal.Goals as goal

pub returns : goal.returns
returns c = λ edges source sink amounts set flow cut same.
    (minimum_from_equal edges source sink amounts set flow cut same, λ others other. omega (arith, ints, same, value-le-capacity edges source sink others set other cut))
