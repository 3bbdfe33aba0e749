-- What comparisons of whole numbers tell.
use Rattle.std.proofs.Common.{◌≡◌, ◌∙◌, ap, ℕ, ◌<◌, false, refl, subst, arith, Ordering, FitsSigned, to_z, of_z}
use Rattle.std.specs.declared.cmp.Ordering.TheVariants.{Less, Equal, Greater}
use Rattle.std.proofs.lemmas.Int.{ints, to_z-of_z}
use Rattle.std.proofs.lemmas.Cmp.{ranked, int_ranked}
use Rattle.std.specs.Ordering.{nat_cmp, int_cmp, is_le, is_eq, is_lt, MatchOrdering}
use lib.Signed.{le_z}
use Rattle.std.specs.Int.{w64, w128}
use Rattle.std.specs.Prelude.{ℤ, ◌≤ℤ◌, ◌<ℤ◌, ◌*ℤ◌, ◌↔◌, IsTrue}

at_most_by : (x y : ℤ) (o : Ordering) → MatchOrdering o (x <ℤ y) (x ≡ y) (y <ℤ x) → IsTrue (is_le o) ↔ (x ≤ℤ y)
at_most_by x y Less h = (λ t. omega (arith, ints, h), λ t. refl)
at_most_by x y Equal h = (λ t. omega (arith, ints, h), λ t. refl)
at_most_by x y Greater h = (λ t. cc, λ t. absurd (omega (arith, ints, h, t)))

pub at_most_told : (x y : ℤ) (o : Ordering) → o ≡ int_cmp x y → IsTrue (is_le o) ↔ (x ≤ℤ y)
at_most_told x y o e = at_most_by x y o (int_ranked x y o e)

equal_by : (x y : ℤ) (o : Ordering) → MatchOrdering o (x <ℤ y) (x ≡ y) (y <ℤ x) → IsTrue (is_eq o) ↔ (x ≡ y)
equal_by x y Less h = (λ t. cc, λ t. absurd (omega (arith, ints, h, t)))
equal_by x y Equal h = (λ t. h, λ t. refl)
equal_by x y Greater h = (λ t. cc, λ t. absurd (omega (arith, ints, h, t)))

pub equal_told : (x y : ℤ) (o : Ordering) → o ≡ int_cmp x y → IsTrue (is_eq o) ↔ (x ≡ y)
equal_told x y o e = equal_by x y o (int_ranked x y o e)

less_by : (i j : ℕ) (o : Ordering) → MatchOrdering o (i < j) (i ≡ j) (j < i) → IsTrue (is_lt o) ↔ (i < j)
less_by i j Less h = (λ t. h, λ t. refl)
less_by i j Equal h = (λ t. cc, λ t. absurd (omega (arith, h, t)))
less_by i j Greater h = (λ t. cc, λ t. absurd (omega (arith, h, t)))

pub less_told : (i j : ℕ) (o : Ordering) → o ≡ nat_cmp i j → IsTrue (is_lt o) ↔ (i < j)
less_told i j o e = less_by i j o (ranked i j o e)

pub tested : (x y : ℤ) → IsTrue (le_z x y) ↔ (x ≤ℤ y)
tested x y = (λ t. grind (arith, ints), λ h. grind (arith, ints))

pub tested_above : (x y : ℤ) → le_z x y ≡ false → y <ℤ x
tested_above x y e = grind (arith, ints)

pub tested_as : (x y a b : ℤ) → x ≡ a → y ≡ b → IsTrue (le_z x y) ↔ (a ≤ℤ b)
tested_as x y a b e f = subst (λ (z : ℤ). IsTrue (le_z x y) ↔ (z ≤ℤ b)) e (subst (λ (z : ℤ). IsTrue (le_z x y) ↔ (x ≤ℤ z)) f (tested x y))

-- what is told of numbers is told of what two calls read of them
pub tested_so : (x y a b : ℤ) (P : Type 0) → x ≡ a → y ≡ b → (a ≤ℤ b) ↔ P → IsTrue (le_z x y) ↔ P
tested_so x y a b P e f h = let same = tested_as x y a b e f in (λ t. h.0 (same.0 t), λ p. same.1 (h.1 p))

-- what a call reads of a bound over a denominator
pub over_read : (bound den over : ℤ) → FitsSigned w64 bound → FitsSigned w128 over → over ≡ to_z w64 (of_z w64 bound) *ℤ den → to_z w128 (of_z w128 over) ≡ bound *ℤ den
over_read bound den over fits fits_over e = to_z-of_z w128 over fits_over ∙ e ∙ ap (λ (z : ℤ). z *ℤ den) (to_z-of_z w64 bound fits)
