use Rattle.std.proofs.Common.{subst}
use Rattle.ofit_num.specs.Fraction.{Fraction, IsLowest}
use Rattle.ofit_num.proofs.frac.Frac.den.Goals as goal

pub returns-clause-lowest : goal.returns-clause-lowest
returns-clause-lowest c = let P : Fraction → Type 0 = IsLowest in subst P c.self.view_is c.self.invariant.0
