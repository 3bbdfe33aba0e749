-- Sums over the first places and over the others.
use Rattle.std.proofs.Common.{◌≡◌, ℕ, zero, suc, ◌+◌, ap, ◌∙◌, arith}
use Rattle.ofit_num.specs.Fit.{sum_below}

-- a sum in two parts
pub sum_parts : (f : ℕ → ℕ) (i m n : ℕ) → n ≡ i + m → sum_below f n ≡ sum_below f i + sum_below (λ j. f (i + j)) m
sum_parts f i zero n e = ap (sum_below f) (let k : n ≡ i = omega (arith, e) in k) ∙ (let k : sum_below f i ≡ sum_below f i + 0 = omega arith in k)
sum_parts f i (suc m) zero e = absurd (omega (arith, e))
sum_parts f i (suc m) (suc n) e =
    let at : n ≡ i + m = omega (arith, e) in
    omega (arith, sum_parts f i m n at, ap f at)
