-- the support of squared residuals, with what counts above 0 and below 0
use Rattle.std.proofs.Common.{◌≡◌, ℕ, zero, suc, ◌+◌, ◌*◌, refl, sym, ap, subst, ◌∙◌, arith, mul-le-mul_left}
use Rattle.std.specs.Prelude.{ℤ, pos, negsuc, ◌+ℤ◌, ◌-ℤ◌, ◌*ℤ◌, ◌≤ℤ◌}
use borrow.Author.Differences.{up, down}
use Rattle.ofit_num.proofs.Gap.{gap, is_gap, gap-same, gap-le, gap-add, gap-sub, gap-mul, pos-gap, nat_square}
use Rattle.ofit_num.specs.Loss.{Factors, factor_of}

-- the squared cost of the residual up - down
abbrev pub square_cost : Factors → ℕ → ℕ → ℕ → ℕ
square_cost k w u v = w * (k.above * (u * u) + k.below * (v * v))

upper_gap : (k : Factors) (w a u v : ℕ) → pos (square_cost k w a 0) ≤ℤ (pos (square_cost k w u v) +ℤ pos (2 * (w * k.above * a)) *ℤ (gap a 0 -ℤ gap u v))
upper_gap k w a u v = simp (pos-gap, gap-sub, gap-mul, gap-add) (gap-le _ _ _ _ (omega (arith, mul-le-mul_left (w * k.above) (nat_square u a))))

lower_gap : (k : Factors) (w a u v : ℕ) → pos (square_cost k w 0 a) ≤ℤ (pos (square_cost k w u v) +ℤ (pos 0 -ℤ pos (2 * (w * k.below * a))) *ℤ (gap 0 a -ℤ gap u v))
lower_gap k w a u v = simp (pos-gap, gap-sub, gap-mul, gap-add) (gap-le _ _ _ _ (omega (arith, mul-le-mul_left (w * k.below) (nat_square v a))))

upper_slope : (k : Factors) (w a : ℕ) (b : ℤ) → pos (square_cost k w a 0) ≤ℤ (pos (square_cost k w (up b) (down b)) +ℤ pos (2 * (w * k.above * a)) *ℤ (pos a -ℤ b))
upper_slope k w a b = subst (λ (z : ℤ). pos (square_cost k w a 0) ≤ℤ (pos (square_cost k w (up b) (down b)) +ℤ pos (2 * (w * k.above * a)) *ℤ z)) same (upper_gap k w a (up b) (down b)) where
  same : gap a 0 -ℤ gap (up b) (down b) ≡ pos a -ℤ b
  same = ap (λ (z : ℤ). z -ℤ gap (up b) (down b)) (sym (pos-gap a)) ∙ ap (λ (z : ℤ). pos a -ℤ z) (sym (is_gap b))

lower_slope : (k : Factors) (w : ℕ) (a b : ℤ) → up a ≡ 0 → pos (square_cost k w 0 (down a)) ≤ℤ (pos (square_cost k w (up b) (down b)) +ℤ (pos 0 -ℤ pos (2 * (w * k.below * down a))) *ℤ (a -ℤ b))
lower_slope k w a b e = subst (λ (z : ℤ). pos (square_cost k w 0 (down a)) ≤ℤ (pos (square_cost k w (up b) (down b)) +ℤ (pos 0 -ℤ pos (2 * (w * k.below * down a))) *ℤ z)) same (lower_gap k w (down a) (up b) (down b)) where
  same : gap 0 (down a) -ℤ gap (up b) (down b) ≡ a -ℤ b
  same = ap (λ (n : ℕ). gap n (down a) -ℤ gap (up b) (down b)) (sym e) ∙ ap (λ (z : ℤ). z -ℤ gap (up b) (down b)) (sym (is_gap a)) ∙ ap (λ (z : ℤ). a -ℤ z) (sym (is_gap b))

-- twice the weighted residual, on its factor_of
abbrev pub slope : Factors → ℕ → ℤ → ℤ
slope k w a = pos 2 *ℤ (pos (w * factor_of k a) *ℤ a)

slope_below : (k : Factors) (w n : ℕ) → pos 2 *ℤ (pos (w * k.below) *ℤ negsuc n) ≡ pos 0 -ℤ pos (2 * (w * k.below * suc n))
slope_below k w n = ap (λ (z : ℤ). pos 2 *ℤ (pos (w * k.below) *ℤ z)) (is_gap (negsuc n)) ∙ simp (pos-gap, gap-mul, gap-sub) (gap-same _ _ _ _ (omega arith))

-- It supports the squared cost.
pub square_support : (k : Factors) (w : ℕ) (a b : ℤ) → pos (square_cost k w (up a) (down a)) ≤ℤ (pos (square_cost k w (up b) (down b)) +ℤ slope k w a *ℤ (a -ℤ b))
square_support k w (pos zero) b =
    subst (λ (n : ℕ). pos (square_cost k w 0 0) ≤ℤ (pos (square_cost k w (up b) (down b)) +ℤ pos n *ℤ (pos 0 -ℤ b))) (omega arith) (upper_slope k w 0 b)
square_support k w (pos (suc n)) b = upper_slope k w (suc n) b
square_support k w (negsuc n) b =
    subst (λ (z : ℤ). pos (square_cost k w 0 (suc n)) ≤ℤ (pos (square_cost k w (up b) (down b)) +ℤ z *ℤ (negsuc n -ℤ b))) (sym (slope_below k w n)) (lower_slope k w (negsuc n) b refl)
