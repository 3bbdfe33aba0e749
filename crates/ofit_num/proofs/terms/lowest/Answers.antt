use Rattle.std.proofs.Common.{◌≡◌, ◌/◌, ◌<◌, ◌^◌, ℕ, arith, subst, ap, ◌∙◌, refl}
use Rattle.std.proofs.lemmas.Int.{ints, to_z-of_z}
use Rattle.std.proofs.Math.Nat.{div-le_self}
use Rattle.std.specs.Prelude.{pos, ◌≤ℤ◌}
use Rattle.std.specs.Int.{w128, IsGcd}
use Rattle.std.specs.Int.RustNames.{FitsSigned, unsigned_abs}
use mir.Val.{to_z}
use Rattle.ofit_num.proofs.LowestTerms.{reduces_sizes}
use Rattle.ofit_num.proofs.Quotients.{divided_by, bottom_some, signed_natural, natural, same_den}
use Rattle.ofit_num.specs.Reduced.{Reduces}
use Rattle.ofit_num.proofs.terms.lowest.Goals as goal

top_is : (c : goal.After-divisor_of-divisor) → c.unsigned_abs-top.result ≡ unsigned_abs c.args.num
top_is c = let nums : FitsSigned w128 c.args.num = c.ranges.num in simp to_z-of_z at c.unsigned_abs-top.ensures.value

bottom_is : (c : goal.After-divisor_of-divisor) → c.unsigned_abs-bottom.result ≡ unsigned_abs c.args.den
bottom_is c = let dens : FitsSigned w128 c.args.den = c.ranges.den in simp to_z-of_z at c.unsigned_abs-bottom.ensures.value

num_is : (c : goal.After-divisor_of-divisor) → to_z w128 (c.unsigned_abs-top.result / c.divisor_of-divisor.result) ≡ pos (c.unsigned_abs-top.result / c.divisor_of-divisor.result)
num_is c =
    let nums : FitsSigned w128 c.args.num = c.ranges.num in
    let small : c.unsigned_abs-top.result < 2 ^ 127 = omega (arith, ints, top_is c, natural c.args.num c.requires.num) in
    omega (arith, ints, div-le_self c.unsigned_abs-top.result c.divisor_of-divisor.result)

den_is : (c : goal.After-divisor_of-divisor) → to_z w128 (c.unsigned_abs-bottom.result / c.divisor_of-divisor.result) ≡ pos (c.unsigned_abs-bottom.result / c.divisor_of-divisor.result)
den_is c =
    let dens : FitsSigned w128 c.args.den = c.ranges.den in
    let small : c.unsigned_abs-bottom.result < 2 ^ 127 = omega (arith, ints, bottom_is c, natural c.args.den (omega (arith, ints, c.requires.den))) in
    omega (arith, ints, div-le_self c.unsigned_abs-bottom.result c.divisor_of-divisor.result)

gcd_is : (c : goal.After-divisor_of-divisor) → IsGcd (unsigned_abs c.args.num) (unsigned_abs c.args.den) c.divisor_of-divisor.result
gcd_is c =
    let P : ℕ → Type 0 = λ t. IsGcd t (unsigned_abs c.args.den) c.divisor_of-divisor.result in
    let Q : ℕ → Type 0 = λ t. IsGcd c.unsigned_abs-top.result t c.divisor_of-divisor.result in
    subst P (top_is c) (subst Q (bottom_is c) c.divisor_of-divisor.ensures.divisor)

one_at_most : (c : goal.After-divisor_of-divisor) → pos 1 ≤ℤ c.args.den
one_at_most c = c.requires.den

pub returns-clause-divided : goal.returns-clause-divided
returns-clause-divided c = (
  c.divisor_of-divisor.result,
  gcd_is c,
  divided_by c.args.num _ c.unsigned_abs-top.result c.divisor_of-divisor.result c.requires.num (top_is c) (gcd_is c).0 (num_is c),
  divided_by c.args.den _ c.unsigned_abs-bottom.result c.divisor_of-divisor.result (omega (arith, ints, one_at_most c)) (bottom_is c) (gcd_is c).1 (den_is c),
)

pub returns-clause-den : goal.returns-clause-den
returns-clause-den c = omega (arith, ints, den_is c, bottom_some (unsigned_abs c.args.den) c.divisor_of-divisor.result c.args.den refl (one_at_most c) (gcd_is c).1, ap (λ (t : ℕ). t / c.divisor_of-divisor.result) (bottom_is c))

pub returns-clause-reduced : goal.returns-clause-reduced
returns-clause-reduced c =
    let P : ℕ → Type 0 = λ d. Reduces c.args.num c.args.den (record { num = to_z w128 (c.unsigned_abs-top.result / c.divisor_of-divisor.result); den = d }) in
    subst P (same_den _ _ (den_is c)) (reduces_sizes c.args.num c.args.den _ _ _ c.divisor_of-divisor.result (one_at_most c) (top_is c) (bottom_is c) c.divisor_of-divisor.ensures.divisor c.divisor_of-divisor.ensures.positive (num_is c ∙ signed_natural c.args.num _ c.requires.num))
