-- the greatest whole number that is at most a quotient
use Rattle.std.proofs.Common.{◌≡◌, ℕ, zero, suc, ◌+◌, ◌*◌, ◌/◌, ◌<◌, ◌≤◌, arith, refl, sym, subst}
use Rattle.std.proofs.lemmas.Int.{ints}
use lib.IntN.{neg_ℤ}
use Rattle.std.specs.Prelude.{ℤ, pos, negsuc, ◌*ℤ◌, ◌+ℤ◌, ◌≤ℤ◌, ◌<ℤ◌}
use Rattle.std.specs.Int.{int_div_euclid}

quotient_low : (n d : ℕ) → 0 < d → (n / d) * d ≤ n
quotient_low n d l = omega arith

quotient_high : (n d : ℕ) → 0 < d → n < (n / d + 1) * d
quotient_high n d l = omega arith

under : (q n d : ℕ) → n < (q + 1) * d → (negsuc q *ℤ pos d) ≤ℤ negsuc n
under q n d h = omega (arith, ints)

next : (q : ℕ) → negsuc q +ℤ pos 1 ≡ neg_ℤ (pos q)
next zero = refl
next (suc q) = omega (arith, ints)

smaller : (q n d : ℕ) → q * d ≤ n → negsuc n <ℤ (neg_ℤ (pos q) *ℤ pos d)
smaller zero n d h = omega (arith, ints)
smaller (suc q) n d h = omega (arith, ints)

above : (q n d : ℕ) → q * d ≤ n → negsuc n <ℤ ((negsuc q +ℤ pos 1) *ℤ pos d)
above q n d h = let P : ℤ → Type 0 = λ z. negsuc n <ℤ (z *ℤ pos d) in subst P (sym (next q)) (smaller q n d h)

low : (a : ℤ) (d : ℕ) → 0 < d → (int_div_euclid a (pos d) *ℤ pos d) ≤ℤ a
low (pos n) d l = omega (arith, ints, quotient_low n d l)
low (negsuc n) d l = under (n / d) n d (quotient_high n d l)

high : (a : ℤ) (d : ℕ) → 0 < d → a <ℤ ((int_div_euclid a (pos d) +ℤ pos 1) *ℤ pos d)
high (pos n) d l = omega (arith, ints, quotient_high n d l)
high (negsuc n) d l = above (n / d) n d (quotient_low n d l)

pub floor_low : (a b q : ℤ) → pos 1 ≤ℤ b → q ≡ int_div_euclid a b → (q *ℤ b) ≤ℤ a
floor_low a (pos d) q h e = let P : ℤ → Type 0 = λ z. (z *ℤ pos d) ≤ℤ a in subst P (sym e) (low a d (omega (arith, ints)))
floor_low a (negsuc d) q h e = absurd (omega (arith, ints))

pub floor_high : (a b q : ℤ) → pos 1 ≤ℤ b → q ≡ int_div_euclid a b → a <ℤ ((q +ℤ pos 1) *ℤ b)
floor_high a (pos d) q h e = let P : ℤ → Type 0 = λ z. a <ℤ ((z +ℤ pos 1) *ℤ pos d) in subst P (sym e) (high a d (omega (arith, ints)))
floor_high a (negsuc d) q h e = absurd (omega (arith, ints))
