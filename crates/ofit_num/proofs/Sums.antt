-- sums over places, of naturals and of integers
use Rattle.std.proofs.Common.{◌≡◌, ℕ, zero, suc, ◌<◌, ◌≤◌, ◌*◌, ◌+◌, refl, sym, ap, ◌∙◌, arith, ◌≢◌, inl, inr}
use Rattle.std.proofs.lemmas.Int.{ints}
use Rattle.std.specs.Prelude.{ℤ, pos, ◌+ℤ◌, ◌-ℤ◌, ◌*ℤ◌, ◌≤ℤ◌, ◌<ℤ◌}
use Rattle.ofit_num.specs.Fit.{sum_below}
use Rattle.ofit_num.proofs.Order.{add_mono, distr_left, mul_zero_ℤ}
use Rattle.std.proofs.lemmas.Bool.{cases_order}

-- the sum of f over the places below n
abbrev pub int_sum : (ℕ → ℤ) → ℕ → ℤ
int_sum f zero = pos 0
int_sum f (suc n) = int_sum f n +ℤ f n

pub int_sum-pos : (f : ℕ → ℕ) (n : ℕ) → pos (sum_below f n) ≡ int_sum (λ g. pos (f g)) n
int_sum-pos f zero = refl
int_sum-pos f (suc n) = omega (arith, ints, int_sum-pos f n)

pub int_sum-mono : (f h : ℕ → ℤ) (n : ℕ) → ((g : ℕ) → g < n → f g ≤ℤ h g) → int_sum f n ≤ℤ int_sum h n
int_sum-mono f h zero le = omega (arith, ints)
int_sum-mono f h (suc n) le = add_mono _ _ _ _ (int_sum-mono f h n (λ g l. le g (omega arith))) (le n (omega arith))

pub int_sum-add : (f h : ℕ → ℤ) (n : ℕ) → int_sum (λ g. f g +ℤ h g) n ≡ int_sum f n +ℤ int_sum h n
int_sum-add f h zero = refl
int_sum-add f h (suc n) = omega (arith, ints, int_sum-add f h n)

pub int_sum-scale : (k : ℤ) (f : ℕ → ℤ) (n : ℕ) → int_sum (λ g. k *ℤ f g) n ≡ k *ℤ int_sum f n
int_sum-scale k f zero = sym (mul_zero_ℤ k)
int_sum-scale k f (suc n) = ap (λ (z : ℤ). z +ℤ k *ℤ f n) (int_sum-scale k f n) ∙ sym (distr_left k (int_sum f n) (f n))

pub int_sum-same : (f h : ℕ → ℤ) (n : ℕ) → ((g : ℕ) → g < n → f g ≡ h g) → int_sum f n ≡ int_sum h n
int_sum-same f h zero e = refl
int_sum-same f h (suc n) e = omega (arith, ints, int_sum-same f h n (λ g l. e g (omega arith)), e n (omega arith))

pub int_sum-zero : (f : ℕ → ℤ) (n : ℕ) → ((g : ℕ) → g < n → f g ≡ pos 0) → int_sum f n ≡ pos 0
int_sum-zero f zero e = refl
int_sum-zero f (suc n) e = omega (arith, ints, int_sum-zero f n (λ g l. e g (omega arith)), e n (omega arith))

-- a sum whose terms are 0 but at one place
pub int_sum-at : (f : ℕ → ℤ) (n k : ℕ) → k < n → ((g : ℕ) → g < n → g ≢ k → f g ≡ pos 0) → int_sum f n ≡ f k
int_sum-at f zero k l e = absurd (omega arith)
int_sum-at f (suc n) k l e = elim (cases_order k n) [
  | inl same ↦ omega (arith, ints, int_sum-zero f n (λ g b. e g (omega arith) (omega arith)), ap f same)
  | inr o ↦ elim o [
    | inl below ↦ omega (arith, ints, int_sum-at f n k below (λ g b d. e g (omega arith) d), e n (omega arith) (omega arith))
    | inr above ↦ absurd (omega arith)
  ]
]

pub int_sum-sub : (f h : ℕ → ℤ) (n : ℕ) → int_sum (λ g. f g -ℤ h g) n ≡ int_sum f n -ℤ int_sum h n
int_sum-sub f h zero = refl
int_sum-sub f h (suc n) = omega (arith, ints, int_sum-sub f h n)

-- terms at least 0, of which one may be above 0
pub int_sum-nonneg : (f : ℕ → ℤ) (n : ℕ) → ((k : ℕ) → k < n → pos 0 ≤ℤ f k) → pos 0 ≤ℤ int_sum f n
int_sum-nonneg f zero h = omega (arith, ints)
int_sum-nonneg f (suc n) h = omega (arith, ints, int_sum-nonneg f n (λ k l. h k (omega arith)), h n (omega arith))

pub int_sum-above : (f : ℕ → ℤ) (n k : ℕ) → k < n → ((k : ℕ) → k < n → pos 0 ≤ℤ f k) → pos 0 <ℤ f k → pos 0 <ℤ int_sum f n
int_sum-above f zero k l h p = absurd (omega arith)
int_sum-above f (suc n) k l h p = elim (cases_order k n) [
  | inl e ↦ omega (arith, ints, int_sum-nonneg f n (λ k l. h k (omega arith)), ap f e)
  | inr o ↦ elim o [
    | inl b ↦ omega (arith, ints, int_sum-above f n k b (λ k l. h k (omega arith)) p, h n (omega arith))
    | inr b ↦ absurd (omega arith)
  ]
]

-- the same of naturals
pub sum_below-scale : (f : ℕ → ℕ) (n k : ℕ) → sum_below f n * k ≡ sum_below (λ g. f g * k) n
sum_below-scale f zero k = omega arith
sum_below-scale f (suc n) k = omega (arith, sum_below-scale f n k)

pub sum_below-same : (f h : ℕ → ℕ) (n : ℕ) → ((g : ℕ) → g < n → f g ≡ h g) → sum_below f n ≡ sum_below h n
sum_below-same f h zero e = refl
sum_below-same f h (suc n) e = omega (arith, sum_below-same f h n (λ g l. e g (omega arith)), e n (omega arith))

pub sum_below-mono : (f h : ℕ → ℕ) (n : ℕ) → ((g : ℕ) → g < n → f g ≤ h g) → sum_below f n ≤ sum_below h n
sum_below-mono f h zero le = omega arith
sum_below-mono f h (suc n) le = omega (arith, sum_below-mono f h n (λ g l. le g (omega arith)), le n (omega arith))

pub sum_below-add : (f h : ℕ → ℕ) (n : ℕ) → sum_below (λ g. f g + h g) n ≡ sum_below f n + sum_below h n
sum_below-add f h zero = refl
sum_below-add f h (suc n) = omega (arith, sum_below-add f h n)

pub sum_below-zero : (f : ℕ → ℕ) (n : ℕ) → ((g : ℕ) → g < n → f g ≡ 0) → sum_below f n ≡ 0
sum_below-zero f zero e = refl
sum_below-zero f (suc n) e = omega (arith, sum_below-zero f n (λ g l. e g (omega arith)), e n (omega arith))

-- one term is at most the sum
pub sum_below-term : (f : ℕ → ℕ) (n g : ℕ) → g < n → f g ≤ sum_below f n
sum_below-term f zero g l = absurd (omega arith)
sum_below-term f (suc n) g l = elim (cases_order g n) [
  | inl e ↦ omega (arith, ap f e)
  | inr o ↦ elim o [ inl b ↦ omega (arith, sum_below-term f n g b) | inr b ↦ absurd (omega arith) ]
]
