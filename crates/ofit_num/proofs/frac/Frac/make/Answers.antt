use Rattle.std.proofs.Common.{arith, rules, ◌^◌, inr, ◌/◌, ◌≡◌, ◌≤◌, refl, subst, ap}
use Rattle.std.proofs.lemmas.Int.{ints, to_z-of_z}
use Rattle.std.specs.Int.{w128}
use Rattle.std.specs.Int.RustNames.{unsigned_abs, FitsSigned}
use mir.Val.{to_z, of_z}
use Rattle.std.specs.Prelude.{ℕ, pos, ◌≤ℤ◌}
use Rattle.ofit_num.specs.Reduced.{Reduces}
use Rattle.ofit_num.specs.Signed.{signed_as}
use Rattle.ofit_num.proofs.LowestTerms.{reduces_sizes, size_of_signed}
use Rattle.ofit_num.proofs.frac.Frac.make.Goals as goal
use Rattle.ofit_num.proofs.frac.Frac.make.Goals.{then-top-gt-MOST_NUM-via-then-top-gt-MOST_NUM, then-top-gt-MOST_NUM-via-else-top-gt-MOST_NUM+then-bottom-gt-MOST_DEN}

pub returns-then-top-gt-MOST_NUM-clause-refused : goal.returns-then-top-gt-MOST_NUM-clause-refused
returns-then-top-gt-MOST_NUM-clause-refused c =
    let nums : FitsSigned w128 c.args.num = c.ranges.num in
    let dens : FitsSigned w128 c.args.den = c.ranges.den in
    let m : c.unsigned_abs-magnitude.result ≡ unsigned_abs c.args.num = simp to_z-of_z at c.unsigned_abs-magnitude.ensures.value in
    let b : c.unsigned_abs-below.result ≡ unsigned_abs c.args.den = simp to_z-of_z at c.unsigned_abs-below.ensures.value in
    let g : ℕ = c.divisor_of-divisor.result in
    let low : pos 1 ≤ℤ c.args.den = omega (arith, ints, c.if-den-lt1.false) in
    inr (
      _,
      reduces_sizes c.args.num c.args.den _ _ _ g low m b c.divisor_of-divisor.ensures.divisor c.divisor_of-divisor.ensures.positive refl,
      λ i. let n : c.unsigned_abs-magnitude.result / g ≤ 10 ^ 21 = subst (λ (t : ℕ). t ≤ 10 ^ 21) (size_of_signed c.args.num _) i.num in
          elim c.then-top-gt-MOST_NUM.branch [ then-top-gt-MOST_NUM-via-then-top-gt-MOST_NUM w ↦ omega (arith, w.if-top-gt-MOST_NUM.true) | then-top-gt-MOST_NUM-via-else-top-gt-MOST_NUM+then-bottom-gt-MOST_DEN w ↦ omega (arith, w.if-bottom-gt-MOST_DEN.true, i.den) ],
    )

reduced : (c : goal.After-with_sign_of) → Reduces c.args.num c.args.den (record { num = to_z w128 (of_z w128 c.with_sign_of.result); den = c.unsigned_abs-below.result / c.divisor_of-divisor.result })
reduced c =
    let nums : FitsSigned w128 c.args.num = c.ranges.num in
    let dens : FitsSigned w128 c.args.den = c.ranges.den in
    let is : FitsSigned w128 c.with_sign_of.result = search rules in
    let m : c.unsigned_abs-magnitude.result ≡ unsigned_abs c.args.num = simp to_z-of_z at c.unsigned_abs-magnitude.ensures.value in
    let b : c.unsigned_abs-below.result ≡ unsigned_abs c.args.den = simp to_z-of_z at c.unsigned_abs-below.ensures.value in
    let low : pos 1 ≤ℤ c.args.den = omega (arith, ints, c.if-den-lt1.false) in
    let z : to_z w128 (of_z w128 c.with_sign_of.result) ≡ signed_as c.args.num (c.unsigned_abs-magnitude.result / c.divisor_of-divisor.result) = simp to_z-of_z (simp to_z-of_z at c.with_sign_of.ensures) in
    reduces_sizes c.args.num c.args.den _ _ _ c.divisor_of-divisor.result low m b c.divisor_of-divisor.ensures.divisor c.divisor_of-divisor.ensures.positive z

pub returns-clause-reduced : goal.returns-clause-reduced
returns-clause-reduced c = reduced c

pub invariant_of-result : goal.invariant_of-result
invariant_of-result c =
    let r = reduced c in
    let nums : FitsSigned w128 c.args.num = c.ranges.num in
    let is : FitsSigned w128 c.with_sign_of.result = search rules in
    let z : to_z w128 (of_z w128 c.with_sign_of.result) ≡ signed_as c.args.num (c.unsigned_abs-magnitude.result / c.divisor_of-divisor.result) = simp to_z-of_z (simp to_z-of_z at c.with_sign_of.ensures) in (
      r.lowest,
      record {
        num = omega (arith, ap unsigned_abs z, size_of_signed c.args.num (c.unsigned_abs-magnitude.result / c.divisor_of-divisor.result), c.if-top-gt-MOST_NUM.false);
        den = omega (arith, c.if-bottom-gt-MOST_DEN.false);
      },
    )
