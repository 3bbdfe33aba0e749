-- fractions in lowest terms
use Rattle.std.proofs.Common.{◌≡◌, ℕ, zero, suc, ◌<◌, ◌≤◌, ◌*◌, ◌/◌, refl, sym, ap, ◌∙◌, arith, subst}
use lib.IntN.{neg_ℤ}
use Prim.Native.Nat.{◌∣◌}
use Rattle.std.proofs.Math.Nat.{div-mul_cancel, mul-dvd-mul_right, dvd_of_mul-dvd-mul_right, one-dvd, div-le_self}
use Rattle.std.proofs.lemmas.Int.{ints}
use Rattle.std.specs.Prelude.{ℤ, pos, negsuc, ◌*ℤ◌, ◌≤ℤ◌}
use Rattle.std.specs.Int.{IsGcd}
use Rattle.std.specs.Int.RustNames.{unsigned_abs}
use Rattle.ofit_num.specs.Reduced.{Reduces}
use Rattle.ofit_num.specs.Signed.{signed_as}

pub size_of_signed : (z : ℤ) (k : ℕ) → unsigned_abs (signed_as z k) ≡ k
size_of_signed (pos n) k = refl
size_of_signed (negsuc n) zero = refl
size_of_signed (negsuc n) (suc k) = refl

-- the quotients by the greatest common divisor have no common divisor but 1
pub quotients_lowest : (a b g : ℕ) → IsGcd a b g → 0 < g → IsGcd (a / g) (b / g) 1
quotients_lowest a b g h l = (
  one-dvd _,
  one-dvd _,
  λ d x y.
      dvd_of_mul-dvd-mul_right d l (subst (λ (t : ℕ). d * g ∣ t) (omega arith) (h.2 (d * g)
      (subst (λ (t : ℕ). d * g ∣ t) (div-mul_cancel g h.0) (mul-dvd-mul_right d x g))
      (subst (λ (t : ℕ). d * g ∣ t) (div-mul_cancel g h.1) (mul-dvd-mul_right d y g)))),
)

-- a/g times b is a times b/g
pub quotients_cross : (a b g : ℕ) → IsGcd a b g → (a / g) * b ≡ a * (b / g)
quotients_cross a b g h = ap (λ (t : ℕ). (a / g) * t) (sym (div-mul_cancel g h.1)) ∙ regroup (a / g) (b / g) g ∙ ap (λ (t : ℕ). t * (b / g)) (div-mul_cancel g h.0)
  where
    regroup : (x y g : ℕ) → x * (y * g) ≡ (x * g) * y
    regroup x y g = omega arith

pub signed_cross : (z : ℤ) (k d e : ℕ) → k * d ≡ unsigned_abs z * e → signed_as z k *ℤ pos d ≡ z *ℤ pos e
signed_cross (pos n) k d e h = ap pos h
signed_cross (negsuc n) zero d e h = omega (arith, ints, h)
signed_cross (negsuc n) (suc k) d e h = ap (λ (t : ℕ). neg_ℤ (pos t)) h

-- a number from 1 on is a natural
natural_size : (z : ℤ) → pos 1 ≤ℤ z → z ≡ pos (unsigned_abs z)
natural_size (pos n) h = refl
natural_size (negsuc n) h = absurd (omega (arith, ints))

pub positive_size : (z : ℤ) → pos 1 ≤ℤ z → 0 < unsigned_abs z
positive_size (pos n) h = omega (arith, ints)
positive_size (negsuc n) h = absurd (omega (arith, ints))

quotient_positive : (b g : ℕ) → 0 < b → g ∣ b → 0 < b / g
quotient_positive b g l h = go (b / g) (div-mul_cancel g h) where
  go : (t : ℕ) → t * g ≡ b → 0 < t
  go zero e = absurd (omega (arith, e))
  go (suc t) e = omega arith

-- dividing both by their greatest common divisor reduces them
pub reduces_by_divisor : (num den : ℤ) (g : ℕ) → pos 1 ≤ℤ den → IsGcd (unsigned_abs num) (unsigned_abs den) g → 0 < g
    → Reduces num den (record { num = signed_as num (unsigned_abs num / g); den = unsigned_abs den / g })
reduces_by_divisor num den g h k l = record {
  lowest = record {
    den = quotient_positive _ g (positive_size den h) k.1;
    coprime = let P : ℕ → Type 0 = λ t. IsGcd t (unsigned_abs den / g) 1 in subst P (sym (size_of_signed num _)) (quotients_lowest _ _ g k l);
  };
  same = subst (λ (z : ℤ). signed_as num (unsigned_abs num / g) *ℤ z ≡ num *ℤ pos (unsigned_abs den / g)) (sym (natural_size den h))
      (signed_cross num _ _ _ (quotients_cross _ _ g k));
}

-- the same over numbers that are known to be the sizes
pub reduces_sizes : (num den z : ℤ) (m b g : ℕ) → pos 1 ≤ℤ den → m ≡ unsigned_abs num → b ≡ unsigned_abs den → IsGcd m b g → 0 < g → z ≡ signed_as num (m / g)
    → Reduces num den (record { num = z; den = b / g })
reduces_sizes num den z m b g h e f k l s =
    let P : ℤ → Type 0 = λ v. Reduces num den (record { num = v; den = b / g }) in
    subst P (sym s) (
    let Q : ℕ → Type 0 = λ t. IsGcd t b g → Reduces num den (record { num = signed_as num (t / g); den = b / g }) in
    let R : ℕ → Type 0 = λ t. IsGcd (unsigned_abs num) t g → Reduces num den (record { num = signed_as num (unsigned_abs num / g); den = t / g }) in
    subst Q (sym e) (subst R (sym f) (λ d. reduces_by_divisor num den g h d l)) k)

-- within the limits of the unreduced parts
pub quotient_le : (a g m : ℕ) → a ≤ m → a / g ≤ m
quotient_le a g m l = omega (arith, div-le_self a g)
