use Rattle.std.proofs.Common.{◌≡◌, ℕ, ◌<◌, ◌≤◌, ◌^◌, sym, ap, subst, ◌∙◌, arith, lit<, to_z, of_z, FitsSigned}
use Rattle.std.proofs.lemmas.Int.{ints, to_z-of_z, fits_signed_from_abs}
use Rattle.std.specs.Prelude.{ℤ, pos, ◌-ℤ◌, ◌*ℤ◌, neg_ℤ, unsigned_abs}
use Rattle.std.specs.Int.{IsGcd, w128}
use Rattle.ofit_num.specs.Fraction.{Fraction, IsLowest}
use Rattle.ofit_num.specs.Reduced.{Reduces}
use Rattle.ofit_num.proofs.Coprime.{same_lowest}
use Rattle.ofit_tree.specs.Entry.{rank_of}
use Rattle.ofit_tree.specs.declared.direction.Direction.{Direction}
use Rattle.ofit_tree.proofs.entry.rank_of.Goals as goal

same_size : (z : ℤ) → unsigned_abs z ≡ unsigned_abs (neg_ℤ z)
same_size z = omega (arith, ints)

negative_is : (f v : Fraction) → IsLowest v → (num den : ℤ) → num ≡ neg_ℤ v.num → den ≡ pos v.den → Reduces num den f → f ≡ record { num = neg_ℤ v.num; den = v.den }
negative_is f v low num den en ed h = same_lowest f (record { num = neg_ℤ v.num; den = v.den }) h.lowest
    (record { den = low.den; coprime = subst (λ (k : ℕ). IsGcd k v.den 1) (same_size v.num) low.coprime })
    (ap (λ (z : ℤ). f.num *ℤ z) (sym ed) ∙ h.same ∙ ap (λ (z : ℤ). z *ℤ pos f.den) en)

small_fits : (z : ℤ) → unsigned_abs z ≤ 10 ^ 21 → FitsSigned w128 z
small_fits z h = fits_signed_from_abs w128 z (omega (arith, h, room)) where
  room : 10 ^ 21 < 2 ^ 127
  room = lit< tt

kept : (z : ℤ) → unsigned_abs z ≤ 10 ^ 21 → to_z w128 (of_z w128 z) ≡ z
kept z h = to_z-of_z w128 z (small_fits z h)

negated : (x v : ℤ) → unsigned_abs x ≤ 10 ^ 21 → x ≡ v → to_z w128 (of_z w128 (pos 0 -ℤ to_z w128 (of_z w128 x))) ≡ neg_ℤ v
negated x v h e = ap (λ (z : ℤ). to_z w128 (of_z w128 (pos 0 -ℤ z))) (kept x h) ∙ kept (pos 0 -ℤ x) (omega (arith, ints, h)) ∙ omega (arith, ints, e)

positive : (z : ℤ) (k : ℕ) → k ≤ 10 ^ 12 → z ≡ pos k → to_z w128 (of_z w128 z) ≡ pos k
positive z k h e = kept z (omega (arith, ints, h, e, larger)) ∙ e where
  larger : 10 ^ 12 ≤ 10 ^ 21
  larger = omega (arith, lit< {m = 10 ^ 12} {n = 10 ^ 21} tt)

pub returns-in-Some : goal.returns-in-Some
returns-in-Some c =
    negative_is c.in-Some.negative c.args.value.now c.den.ensures.lowest _ _ (negated c.num.result c.args.value.now.num c.num.ensures.in_limits c.num.ensures.value) (positive c.den.result c.args.value.now.den c.den.ensures.in_limits c.den.ensures.value) c.in-Some.ensures.reduced
    ∙ ap (λ (d : Direction). rank_of d c.args.value.now) (sym c.in-RootLeast.is)
