use Rattle.std.proofs.Common.{arith, lit<, lit≤, ◌^◌, ◌*ℤ◌, unsigned_abs}
use Rattle.std.proofs.lemmas.Int.{to_z-of_z, fits_signed_mul, unsigned_abs-mul}
use Rattle.std.specs.Int.{w128}
use Rattle.std.specs.Int.RustNames.{FitsSigned}
use Rattle.ofit_report.proofs.Products.{at_most}
use Rattle.ofit_report.proofs.cost.term.Goals as goal

pub returns-clause-exact : goal.returns-clause-exact
returns-clause-exact c =
    let left_fits : FitsSigned w128 c.args.left = c.ranges.left in
    let right_fits : FitsSigned w128 c.args.right = c.ranges.right in
    let fits : FitsSigned w128 (c.args.left *ℤ c.args.right) = fits_signed_mul w128 c.args.left c.args.right (10 ^ 18) (10 ^ 19) c.requires.left c.requires.right (lit< tt) in
    simp to_z-of_z

pub returns-clause-size : goal.returns-clause-size
returns-clause-size c =
    let left_fits : FitsSigned w128 c.args.left = c.ranges.left in
    let right_fits : FitsSigned w128 c.args.right = c.ranges.right in
    let fits : FitsSigned w128 (c.args.left *ℤ c.args.right) = fits_signed_mul w128 c.args.left c.args.right (10 ^ 18) (10 ^ 19) c.requires.left c.requires.right (lit< tt) in
    simp to_z-of_z (omega (arith, unsigned_abs-mul c.args.left c.args.right, at_most (unsigned_abs c.args.left) (unsigned_abs c.args.right) (10 ^ 18) (10 ^ 19) (10 ^ 37) c.requires.left c.requires.right (lit≤ tt)))
