use Rattle.std.proofs.Common.{◌≡◌, ◌≤◌, arith, pos, ◌*ℤ◌, ◌^◌, lit<, unsigned_abs, to_z, of_z}
use Rattle.std.proofs.lemmas.Int.{ints, to_z-of_z, fits_signed_mul}
use Rattle.std.specs.Int.{w128}
use Rattle.std.specs.Int.RustNames.{FitsSigned}
use Rattle.ofit_check.proofs.values.bound_over.Goals as goal

pub overflow_mul-result : goal.overflow_mul-result
overflow_mul-result c =
    let bound : unsigned_abs (to_z w128 (of_z w128 c.from.result)) ≤ 10 ^ 9 = omega (arith, ints, c.from.ensures, c.requires.bound) in
    let den : unsigned_abs (to_z w128 (of_z w128 c.den.result)) ≤ 10 ^ 12 = omega (arith, ints, c.den.ensures.value, c.den.ensures.in_limits) in
    fits_signed_mul w128 (to_z w128 (of_z w128 c.from.result)) (to_z w128 (of_z w128 c.den.result)) (10 ^ 9) (10 ^ 12) bound den (lit< tt)

pub returns : goal.returns
returns c =
    let bound : to_z w128 (of_z w128 c.from.result) ≡ c.args.bound = omega (arith, ints, c.from.ensures, c.requires.bound) in
    let den : to_z w128 (of_z w128 c.den.result) ≡ pos c.args.value.now.den = omega (arith, ints, c.den.ensures.value, c.den.ensures.in_limits) in
    let fits : FitsSigned w128 (c.args.bound *ℤ pos c.args.value.now.den) = fits_signed_mul w128 c.args.bound (pos c.args.value.now.den) (10 ^ 9) (10 ^ 12) c.requires.bound c.den.ensures.in_limits (lit< tt) in
    simp (bound, den, to_z-of_z)
