-- values of trials at places whose fractions are known
use Rattle.std.proofs.Common.{◌≡◌, ℕ, ◌*◌, ◌<◌, ap, arith, mul-pos}
use Rattle.std.proofs.lemmas.Int.{ints}
use Rattle.std.specs.Prelude.{ℤ, pos, ◌-ℤ◌, ◌*ℤ◌, ◌≤ℤ◌, ◌<ℤ◌}
use Rattle.ofit_num.proofs.Gap.{is_gap, gap-same, gap-mul, gap-sub, pos-gap}
use Rattle.ofit_num.proofs.Order.{mul_pos, mul_strict, assoc_swap, mul_pos_mul, cancel_le_ℤ, zero_mul_ℤ}

-- v/q and w/q are n/d and k/e
pub rising_values : (v w n k : ℤ) (d e q : ℕ) → 0 < d → 0 < e → v *ℤ pos d ≡ n *ℤ pos q → w *ℤ pos e ≡ k *ℤ pos q → (n *ℤ pos e) ≤ℤ (k *ℤ pos d) → v ≤ℤ w
rising_values v w n k d e q ld le hv hw h = cancel_le_ℤ v w (e * d) (mul-pos le ld) (omega (
  arith,
  ints,
  mul_pos_mul v d e,
  mul_pos_mul w d e,
  assoc_swap w (pos d) (pos e),
  ap (λ (z : ℤ). z *ℤ pos e) hv,
  ap (λ (z : ℤ). z *ℤ pos d) hw,
  assoc_swap n (pos q) (pos e),
  assoc_swap k (pos q) (pos d),
  mul_pos (n *ℤ pos e) (k *ℤ pos d) q h,
))

-- v/q less k/(q·r) is below n/d, where v/q is n/d
pub lowered_below : (v n : ℤ) (d q r k : ℕ) → 0 < d → 0 < k → v *ℤ pos d ≡ n *ℤ pos q → ((v *ℤ pos r -ℤ pos k) *ℤ pos d) <ℤ (n *ℤ pos (q * r))
lowered_below v n d q r k ld lk e = omega (
  arith,
  ints,
  opened v (pos k) d r,
  ap (λ (z : ℤ). z *ℤ pos r) e,
  spread n q r,
  mul_strict (pos 0) (pos k) d (omega (arith, ints)) ld,
  zero_mul_ℤ (pos d),
) where
  opened : (v y : ℤ) (d r : ℕ) → (v *ℤ pos r -ℤ y) *ℤ pos d ≡ (v *ℤ pos d) *ℤ pos r -ℤ y *ℤ pos d
  opened v y d r = rw (is_gap v, is_gap y) (simp (pos-gap, gap-mul, gap-sub) (gap-same _ _ _ _ (omega arith)))

  spread : (n : ℤ) (q r : ℕ) → n *ℤ pos (q * r) ≡ (n *ℤ pos q) *ℤ pos r
  spread n q r = rw (is_gap n) (simp (pos-gap, gap-mul) (gap-same _ _ _ _ (omega arith)))
