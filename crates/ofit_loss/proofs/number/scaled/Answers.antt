use Rattle.std.proofs.Common.{arith, lit<, ◌^◌, ◌*ℤ◌, unsigned_abs}
use Rattle.std.proofs.lemmas.Int.{to_z-of_z, fits_signed_mul, unsigned_abs-mul}
use Rattle.std.proofs.lemmas.Nat.{mul-le}
use Rattle.std.specs.Int.{w128}
use Rattle.std.specs.Int.RustNames.{FitsSigned}
use Rattle.ofit_loss.proofs.number.scaled.Goals as goal

pub returns-clause-exact : goal.returns-clause-exact
returns-clause-exact c =
    let number_fits : FitsSigned w128 c.args.number = c.ranges.number in
    let factor_fits : FitsSigned w128 c.args.factor = c.ranges.factor in
    let fits : FitsSigned w128 (c.args.number *ℤ c.args.factor) = fits_signed_mul w128 c.args.number c.args.factor (10 ^ 21) (10 ^ 12) c.requires.number c.requires.factor (lit< tt) in
    simp to_z-of_z

pub returns-clause-size : goal.returns-clause-size
returns-clause-size c =
    let number_fits : FitsSigned w128 c.args.number = c.ranges.number in
    let factor_fits : FitsSigned w128 c.args.factor = c.ranges.factor in
    let fits : FitsSigned w128 (c.args.number *ℤ c.args.factor) = fits_signed_mul w128 c.args.number c.args.factor (10 ^ 21) (10 ^ 12) c.requires.number c.requires.factor (lit< tt) in
    simp to_z-of_z (omega (arith, unsigned_abs-mul c.args.number c.args.factor, mul-le (unsigned_abs c.args.number) (unsigned_abs c.args.factor) (10 ^ 21) (10 ^ 12) c.requires.number c.requires.factor))
