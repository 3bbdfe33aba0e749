-- Products and fractions of numbers that are known by equations.
use Rattle.std.proofs.Common.{◌≡◌, refl, ℕ, ◌*◌, ◌^◌, ◌≤◌, ap, sym, ◌∙◌, arith, to_z, of_z}
use Rattle.std.proofs.lemmas.Nat.{mul-le}
use Rattle.std.proofs.lemmas.Int.{ints, to_z-of_z}
use Rattle.std.specs.Int.{w128}
use Rattle.std.specs.Int.RustNames.{FitsSigned}
use Rattle.std.specs.Prelude.{ℤ, pos, ◌+ℤ◌, ◌-ℤ◌, ◌*ℤ◌, unsigned_abs}
use Rattle.ofit_num.specs.Fraction.{Fraction}
use Rattle.ofit_num.specs.Reduced.{Reduces}
use Rattle.ofit_num.proofs.Gap.{is_gap, pos-gap, gap-mul, gap-add, gap-same}

pub times_is : (r a b x y : ℤ) → r ≡ a *ℤ b → a ≡ x → b ≡ y → r ≡ x *ℤ y
times_is r a b x y e ea eb = e ∙ ap (λ (t : ℤ). t *ℤ b) ea ∙ ap (λ (t : ℤ). x *ℤ t) eb

pub reduces_as : (a b x y : ℤ) (f : Fraction) → Reduces a b f → a ≡ x → b ≡ y → Reduces x y f
reduces_as a b x y f r ea eb = rw (sym ea, sym eb) r

pub at_most : (a b m n most : ℕ) → a ≤ m → b ≤ n → m * n ≤ most → a * b ≤ most
at_most a b m n most ha hb h = omega (arith, mul-le a b m n ha hb, h)

pub doubled : (z : ℤ) → pos 2 *ℤ z ≡ z +ℤ z
doubled z = rw (is_gap z) (simp (pos-gap, gap-mul, gap-add) (gap-same _ _ _ _ (omega arith)))

-- q less x, less x again, and more by l
pub gathered : (q x l first second third : ℤ) → first ≡ q -ℤ x → second ≡ first -ℤ x → third ≡ second +ℤ l → third ≡ (q -ℤ pos 2 *ℤ x) +ℤ l
gathered q x l first second third a b c = omega (arith, ints, a, b, c, doubled x)

-- what a call reads of a number that fits
pub read_as : (r z : ℤ) → unsigned_abs r ≤ 10 ^ 38 → r ≡ z → to_z w128 (of_z w128 r) ≡ z
read_as r z h e = let fits : FitsSigned w128 r = omega (arith, ints, h) in simp to_z-of_z e

pub plus_is : (r a b x y : ℤ) → r ≡ a +ℤ b → a ≡ x → b ≡ y → r ≡ x +ℤ y
plus_is r a b x y e ea eb = e ∙ ap (λ (t : ℤ). t +ℤ b) ea ∙ ap (λ (t : ℤ). x +ℤ t) eb

pub minus_is : (r a b x y : ℤ) → r ≡ a -ℤ b → a ≡ x → b ≡ y → r ≡ x -ℤ y
minus_is r a b x y e ea eb = e ∙ ap (λ (t : ℤ). t -ℤ b) ea ∙ ap (λ (t : ℤ). x -ℤ t) eb

-- a number of bounded size times a weight
module _ (a r : ℤ) (w most : ℕ) (size : unsigned_abs a ≤ most) (weight : w ≤ 10 ^ 10) (fits : most * 10 ^ 10 ≤ 10 ^ 38) where
  pub weighted_fits : unsigned_abs r ≡ unsigned_abs a * w → unsigned_abs r ≤ 10 ^ 38
  weighted_fits e = omega (arith, e, at_most (unsigned_abs a) w most (10 ^ 10) (10 ^ 38) size weight fits)

  pub weighted_size : unsigned_abs r ≡ unsigned_abs a * w → unsigned_abs (to_z w128 (of_z w128 r)) ≤ most * w
  weighted_size e = omega (arith, e, ap unsigned_abs (read_as r r (weighted_fits e) refl), mul-le (unsigned_abs a) w most w size (omega arith))
