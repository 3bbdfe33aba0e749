-- the laws of absolute residuals
use Rattle.std.proofs.Common.{◌≡◌, ℕ, zero, suc, ◌+◌, ◌*◌, refl, sym, ap, subst, ◌∙◌, arith}
use Rattle.std.proofs.lemmas.Int.{ints}
use Rattle.std.specs.Prelude.{ℤ, pos, negsuc, ◌+ℤ◌, ◌-ℤ◌, ◌*ℤ◌, ◌≤ℤ◌}
use Rattle.std.specs.Int.RustNames.{unsigned_abs}
use borrow.Author.Differences.{up, down}
use Rattle.ofit_num.proofs.Gap.{gap, is_gap, gap-le, gap-add, gap-sub, gap-mul, pos-gap}
use Rattle.ofit_num.specs.Loss.{Factors, factor_of, absolute_least, absolute_greatest}

-- the cost of a residual, by its two sides
pub sides : (k : Factors) (x : ℤ) → factor_of k x * unsigned_abs x ≡ k.above * up x + k.below * down x
sides k (pos zero) = omega arith
sides k (pos (suc n)) = omega arith
sides k (negsuc n) = omega arith

pub ends_ordered : (k : Factors) (w : ℕ) (x : ℤ) → absolute_least k w x ≤ℤ absolute_greatest k w x
ends_ordered k w (pos zero) = omega (arith, ints)
ends_ordered k w (pos (suc n)) = omega (arith, ints)
ends_ordered k w (negsuc n) = omega (arith, ints)

-- the cost of the residual up - down
abbrev pub cost : Factors → ℕ → ℕ → ℕ → ℕ
cost k w u v = w * (k.above * u + k.below * v)

upper_gap : (k : Factors) (w a u v : ℕ) → pos (cost k w a 0) ≤ℤ (pos (cost k w u v) +ℤ pos (w * k.above) *ℤ (gap a 0 -ℤ gap u v))
upper_gap k w a u v = simp (pos-gap, gap-sub, gap-mul, gap-add) (gap-le _ _ _ _ (omega arith))

lower_gap : (k : Factors) (w a u v : ℕ) → pos (cost k w 0 a) ≤ℤ (pos (cost k w u v) +ℤ (pos 0 -ℤ pos (w * k.below)) *ℤ (gap 0 a -ℤ gap u v))
lower_gap k w a u v = simp (pos-gap, gap-sub, gap-mul, gap-add) (gap-le _ _ _ _ (omega arith))

-- the slope above 0 supports each residual from 0 on, the slope below 0 each one up to 0
upper_slope : (k : Factors) (w a : ℕ) (b : ℤ) → pos (cost k w a 0) ≤ℤ (pos (cost k w (up b) (down b)) +ℤ pos (w * k.above) *ℤ (pos a -ℤ b))
upper_slope k w a b = subst (λ (z : ℤ). pos (cost k w a 0) ≤ℤ (pos (cost k w (up b) (down b)) +ℤ pos (w * k.above) *ℤ z)) (same a b) (upper_gap k w a (up b) (down b)) where
  same : (a : ℕ) (b : ℤ) → gap a 0 -ℤ gap (up b) (down b) ≡ pos a -ℤ b
  same a b = ap (λ (z : ℤ). z -ℤ gap (up b) (down b)) (sym (pos-gap a)) ∙ ap (λ (z : ℤ). pos a -ℤ z) (sym (is_gap b))

lower_slope : (k : Factors) (w : ℕ) (a b : ℤ) → up a ≡ 0 → pos (cost k w 0 (down a)) ≤ℤ (pos (cost k w (up b) (down b)) +ℤ (pos 0 -ℤ pos (w * k.below)) *ℤ (a -ℤ b))
lower_slope k w a b e = subst (λ (z : ℤ). pos (cost k w 0 (down a)) ≤ℤ (pos (cost k w (up b) (down b)) +ℤ (pos 0 -ℤ pos (w * k.below)) *ℤ z)) same (lower_gap k w (down a) (up b) (down b)) where
  same : gap 0 (down a) -ℤ gap (up b) (down b) ≡ a -ℤ b
  same = ap (λ (n : ℕ). gap n (down a) -ℤ gap (up b) (down b)) (sym e) ∙ ap (λ (z : ℤ). z -ℤ gap (up b) (down b)) (sym (is_gap a)) ∙ ap (λ (z : ℤ). a -ℤ z) (sym (is_gap b))

pub least_support : (k : Factors) (w : ℕ) (a b : ℤ) → pos (cost k w (up a) (down a)) ≤ℤ (pos (cost k w (up b) (down b)) +ℤ absolute_least k w a *ℤ (a -ℤ b))
least_support k w (pos zero) b = lower_slope k w (pos zero) b refl
least_support k w (pos (suc n)) b = upper_slope k w (suc n) b
least_support k w (negsuc n) b = lower_slope k w (negsuc n) b refl

pub greatest_support : (k : Factors) (w : ℕ) (a b : ℤ) → pos (cost k w (up a) (down a)) ≤ℤ (pos (cost k w (up b) (down b)) +ℤ absolute_greatest k w a *ℤ (a -ℤ b))
greatest_support k w (pos zero) b = upper_slope k w zero b
greatest_support k w (pos (suc n)) b = upper_slope k w (suc n) b
greatest_support k w (negsuc n) b = lower_slope k w (negsuc n) b refl
