use Rattle.std.proofs.Common.{◌≡◌, ◌≤◌, ◌*◌, ◌^◌, ◌∙◌, ℕ, ap, arith}
use Rattle.std.proofs.Math.Nat.{mul-le-mul_left}
use Rattle.std.proofs.lemmas.Int.{ints}
use Rattle.std.specs.Prelude.{◌-ℤ◌, unsigned_abs}
use Rattle.ofit_check.proofs.peak.cost.distance_of.Goals as goal

pub overflow_mul-result : goal.overflow_mul-result
overflow_mul-result c =
    let apart : c.unsigned_abs-apart.result ≤ 2 ^ 64 = omega (arith, ints, c.unsigned_abs-apart.ensures.value, c.from.ensures, c.from-2.ensures, c.requires.row, c.ranges.value.sfits) in
    omega (arith, c.from-3.ensures, c.requires.weight, mul-le-mul_left c.from-3.result apart)

pub returns-clause-exact : goal.returns-clause-exact
returns-clause-exact c =
    let apart : c.unsigned_abs-apart.result ≡ unsigned_abs (c.args.row.now.value -ℤ c.args.value) = omega (arith, ints, c.unsigned_abs-apart.ensures.value, c.from.ensures, c.from-2.ensures, c.requires.row, c.ranges.value.sfits) in
    ap (λ (w : ℕ). w * c.unsigned_abs-apart.result) c.from-3.ensures ∙ ap (λ (n : ℕ). c.args.row.now.weight * n) apart

pub returns-clause-most : goal.returns-clause-most
returns-clause-most c =
    let apart : c.unsigned_abs-apart.result ≤ 2 ^ 64 = omega (arith, ints, c.unsigned_abs-apart.ensures.value, c.from.ensures, c.from-2.ensures, c.requires.row, c.ranges.value.sfits) in
    omega (arith, c.from-3.ensures, mul-le-mul_left c.from-3.result apart)
