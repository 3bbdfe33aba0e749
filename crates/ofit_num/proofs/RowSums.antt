-- sums over lists of rows, of naturals and of integers
use Rattle.std.proofs.Common.{◌≡◌, ℕ, ◌+◌, ◌*◌, ◌≤◌, refl, sym, ap, ap₂, ◌∙◌, arith, List, [], ◌∷◌, ◌++◌}
use Rattle.std.proofs.lemmas.Int.{ints}
use Rattle.std.specs.Prelude.{ℤ, pos, ◌+ℤ◌, ◌*ℤ◌, ◌≤ℤ◌}
use Rattle.std.specs.Prelude.{sum_by}
use Rattle.std.proofs.lemmas.List.Sums.{sum_by-cons}
use Rattle.ofit_num.specs.declared.row.Row.{Row}
use Rattle.ofit_num.specs.Loss.{row_sum, int_row_sum}
use Rattle.ofit_num.proofs.Gap.{distr}
use Rattle.ofit_num.proofs.Order.{zero_mul_ℤ, add_mono}

pub row_sum-append : (f : Row → ℕ) (xs ys : List Row) → row_sum f (xs ++ ys) ≡ row_sum f xs + row_sum f ys
row_sum-append f [] ys = omega arith
row_sum-append f (x ∷ xs) ys = omega (arith, row_sum-append f xs ys)

pub row_sum-add : (f h : Row → ℕ) (rs : List Row) → row_sum (λ r. f r + h r) rs ≡ row_sum f rs + row_sum h rs
row_sum-add f h [] = refl
row_sum-add f h (r ∷ rs) = omega (arith, row_sum-add f h rs)

pub row_sum-scale : (f : Row → ℕ) (k : ℕ) (rs : List Row) → row_sum (λ r. f r * k) rs ≡ row_sum f rs * k
row_sum-scale f k [] = omega arith
row_sum-scale f k (r ∷ rs) = omega (arith, row_sum-scale f k rs)

pub row_sum-same : (f h : Row → ℕ) (rs : List Row) → ((r : Row) → f r ≡ h r) → row_sum f rs ≡ row_sum h rs
row_sum-same f h [] e = refl
row_sum-same f h (r ∷ rs) e = ap₂ (λ (a b : ℕ). a + b) (e r) (row_sum-same f h rs e)

pub row_sum-mono : (f h : Row → ℕ) (rs : List Row) → ((r : Row) → f r ≤ h r) → row_sum f rs ≤ row_sum h rs
row_sum-mono f h [] le = omega arith
row_sum-mono f h (r ∷ rs) le = omega (arith, le r, row_sum-mono f h rs le)

pub int_row_sum-append : (f : Row → ℤ) (xs ys : List Row) → int_row_sum f (xs ++ ys) ≡ int_row_sum f xs +ℤ int_row_sum f ys
int_row_sum-append f [] ys = omega (arith, ints)
int_row_sum-append f (x ∷ xs) ys = omega (arith, ints, int_row_sum-append f xs ys)

pub int_row_sum-add : (f h : Row → ℤ) (rs : List Row) → int_row_sum (λ r. f r +ℤ h r) rs ≡ int_row_sum f rs +ℤ int_row_sum h rs
int_row_sum-add f h [] = refl
int_row_sum-add f h (r ∷ rs) = omega (arith, ints, int_row_sum-add f h rs)

pub int_row_sum-scale : (f : Row → ℤ) (k : ℤ) (rs : List Row) → int_row_sum (λ r. f r *ℤ k) rs ≡ int_row_sum f rs *ℤ k
int_row_sum-scale f k [] = sym (zero_mul_ℤ k)
int_row_sum-scale f k (r ∷ rs) = ap (λ (z : ℤ). f r *ℤ k +ℤ z) (int_row_sum-scale f k rs) ∙ sym (distr (f r) (int_row_sum f rs) k)

pub int_row_sum-same : (f h : Row → ℤ) (rs : List Row) → ((r : Row) → f r ≡ h r) → int_row_sum f rs ≡ int_row_sum h rs
int_row_sum-same f h [] e = refl
int_row_sum-same f h (r ∷ rs) e = ap₂ (λ (a b : ℤ). a +ℤ b) (e r) (int_row_sum-same f h rs e)

pub int_row_sum-mono : (f h : Row → ℤ) (rs : List Row) → ((r : Row) → f r ≤ℤ h r) → int_row_sum f rs ≤ℤ int_row_sum h rs
int_row_sum-mono f h [] le = omega (arith, ints)
int_row_sum-mono f h (r ∷ rs) le = add_mono _ _ _ _ (le r) (int_row_sum-mono f h rs le)

pub int_row_sum-pos : (f : Row → ℕ) (rs : List Row) → pos (row_sum f rs) ≡ int_row_sum (λ r. pos (f r)) rs
int_row_sum-pos f [] = refl
int_row_sum-pos f (r ∷ rs) = omega (arith, ints, int_row_sum-pos f rs)

-- std's sum of f over the rows is the same
pub row_sum-sum_by : (f : Row → ℕ) (rs : List Row) → row_sum f rs ≡ sum_by f rs
row_sum-sum_by f [] = refl
row_sum-sum_by f (r ∷ rs) = ap (λ (n : ℕ). f r + n) (row_sum-sum_by f rs) ∙ sym (sum_by-cons f r rs)
