use Rattle.std.proofs.Common.{arith, pos, ◌^◌, ◌*ℤ◌, lit<}
use Rattle.std.proofs.lemmas.Int.{to_z-of_z, fits_signed_mul, unsigned_abs-mul}
use Rattle.std.specs.Int.{w128}
use Rattle.std.specs.Int.RustNames.{FitsSigned}
use Rattle.ofit_report.proofs.rows.weighted.Goals as goal

pub returns-clause-exact : goal.returns-clause-exact
returns-clause-exact c =
    let number_fits : FitsSigned w128 c.args.number = c.ranges.number in
    let factor_fits : FitsSigned w128 (pos c.args.weight) = omega (arith, c.requires.weight) in
    let fits : FitsSigned w128 (c.args.number *ℤ pos c.args.weight) = fits_signed_mul w128 c.args.number (pos c.args.weight) (10 ^ 18) (10 ^ 10) c.requires.number c.requires.weight (lit< tt) in
    simp (c.from.ensures, to_z-of_z)

pub returns-clause-size : goal.returns-clause-size
returns-clause-size c =
    let number_fits : FitsSigned w128 c.args.number = c.ranges.number in
    let factor_fits : FitsSigned w128 (pos c.args.weight) = omega (arith, c.requires.weight) in
    let fits : FitsSigned w128 (c.args.number *ℤ pos c.args.weight) = fits_signed_mul w128 c.args.number (pos c.args.weight) (10 ^ 18) (10 ^ 10) c.requires.number c.requires.weight (lit< tt) in
    simp (c.from.ensures, to_z-of_z) (unsigned_abs-mul c.args.number (pos c.args.weight))
