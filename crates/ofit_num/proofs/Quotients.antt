-- both numbers divided by their greatest common divisor
use Rattle.std.proofs.Common.{◌≡◌, ℕ, zero, suc, ◌<◌, ◌*◌, ◌/◌, refl, sym, ap, ◌∙◌, arith}
use Prim.Native.Nat.{◌∣◌}
use Rattle.std.proofs.Math.Nat.{div-mul_cancel}
use Rattle.std.proofs.lemmas.Int.{ints}
use Rattle.std.specs.Prelude.{ℤ, pos, negsuc, ◌*ℤ◌, ◌≤ℤ◌}
use Rattle.std.specs.Int.RustNames.{unsigned_abs}
use Rattle.ofit_num.specs.Signed.{signed_as}

pub natural : (z : ℤ) → pos 0 ≤ℤ z → z ≡ pos (unsigned_abs z)
natural (pos n) h = refl
natural (negsuc n) h = absurd (omega (arith, ints))

-- a quotient by a divisor, times it, is the number
pub divided_by : (z q : ℤ) (m g : ℕ) → pos 0 ≤ℤ z → m ≡ unsigned_abs z → g ∣ unsigned_abs z → q ≡ pos (m / g) → z ≡ q *ℤ pos g
divided_by z q m g h e d k =
    natural z h ∙ ap pos (sym (div-mul_cancel g d) ∙ ap (λ (t : ℕ). (t / g) * g) (sym e)) ∙ sym (ap (λ (t : ℤ). t *ℤ pos g) k)

pub quotient_some : (m g : ℕ) → 0 < m → g ∣ m → 0 < m / g
quotient_some m g l d = go (m / g) (div-mul_cancel g d)
  where
    go : (t : ℕ) → t * g ≡ m → 0 < t
    go zero e = absurd (omega (arith, e))
    go (suc t) e = omega arith

pub signed_natural : (z : ℤ) (k : ℕ) → pos 0 ≤ℤ z → pos k ≡ signed_as z k
signed_natural (pos n) k h = refl
signed_natural (negsuc n) k h = absurd (omega (arith, ints))

pub same_den : (z : ℤ) (k : ℕ) → z ≡ pos k → k ≡ unsigned_abs z
same_den z k e = sym (ap unsigned_abs e)

pub bottom_some : (m g : ℕ) (z : ℤ) → m ≡ unsigned_abs z → pos 1 ≤ℤ z → g ∣ m → 0 < m / g
bottom_some m g (pos n) e h d = quotient_some m g (omega (arith, ints)) d
bottom_some m g (negsuc n) e h d = absurd (omega (arith, ints))
