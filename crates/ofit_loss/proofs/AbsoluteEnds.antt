-- the two ends of a row's span under the median, by the side that the row is on
use Rattle.std.proofs.Common.{◌≡◌, ℕ, zero, suc, ◌≤◌, List, [], ◌∷◌, ap₂, ◌∙◌, arith}
use Rattle.std.proofs.lemmas.Int.{ints}
use Rattle.std.specs.Prelude.{ℤ, pos, negsuc, ◌-ℤ◌, ◌*ℤ◌, ◌≤ℤ◌, ◌<ℤ◌, unsigned_abs}
use Rattle.std.proofs.lemmas.Cmp.{int_ranked}
use Rattle.std.proofs.lemmas.List.Sums.{sum_by-cons}
use Rattle.std.specs.Ordering.{int_cmp}
use Rattle.std.specs.declared.cmp.Ordering.TheVariants.{Less, Equal, Greater}
use Rattle.ofit_num.specs.declared.row.Row.{Row}
use Rattle.ofit_num.specs.RowTotals.{total_weight}
use Rattle.ofit_num.specs.Loss.{Factors, int_row_sum, absolute_least, absolute_greatest}
use Rattle.ofit_num.proofs.Order.{swap_ℤ}

-- each side counts once
abbrev pub once : Factors
once = record { above = 1; below = 1 }

pub least_above : (w : ℕ) (x : ℤ) → pos 0 <ℤ x → absolute_least once w x ≡ pos w
least_above w (pos zero) h = absurd (omega (arith, ints))
least_above w (pos (suc n)) h = omega (arith, ints)
least_above w (negsuc n) h = absurd (omega (arith, ints))

pub least_below : (w : ℕ) (x : ℤ) → x ≤ℤ pos 0 → absolute_least once w x ≡ pos 0 -ℤ pos w
least_below w (pos zero) h = omega (arith, ints)
least_below w (pos (suc n)) h = absurd (omega (arith, ints))
least_below w (negsuc n) h = omega (arith, ints)

pub greatest_above : (w : ℕ) (x : ℤ) → pos 0 ≤ℤ x → absolute_greatest once w x ≡ pos w
greatest_above w (pos zero) h = omega (arith, ints)
greatest_above w (pos (suc n)) h = omega (arith, ints)
greatest_above w (negsuc n) h = absurd (omega (arith, ints))

pub greatest_below : (w : ℕ) (x : ℤ) → x <ℤ pos 0 → absolute_greatest once w x ≡ pos 0 -ℤ pos w
greatest_below w (pos zero) h = absurd (omega (arith, ints))
greatest_below w (pos (suc n)) h = absurd (omega (arith, ints))
greatest_below w (negsuc n) h = omega (arith, ints)

-- what an order of two numbers says
pub from_greater : (x y : ℤ) → Greater ≡ int_cmp x y → y <ℤ x
from_greater x y e = int_ranked x y Greater e

pub from_equal : (x y : ℤ) → Equal ≡ int_cmp x y → x ≡ y
from_equal x y e = int_ranked x y Equal e

pub from_less : (x y : ℤ) → Less ≡ int_cmp x y → x <ℤ y
from_less x y e = int_ranked x y Less e

-- a residual from the product that the code takes
pub residual_from : (t a b n y p : ℤ) (q : ℕ) → t ≡ a *ℤ b → a ≡ y → b ≡ pos q → n ≡ p → t -ℤ n ≡ pos q *ℤ y -ℤ p
residual_from t a b n y p q e f g h = ap₂ (λ (u v : ℤ). u -ℤ v) (e ∙ ap₂ (λ (u v : ℤ). u *ℤ v) f g ∙ swap_ℤ y (pos q)) h

pub least_size : (w : ℕ) (x : ℤ) → unsigned_abs (absolute_least once w x) ≤ w
least_size w (pos zero) = omega (arith, ints)
least_size w (pos (suc n)) = omega (arith, ints)
least_size w (negsuc n) = omega (arith, ints)

pub greatest_size : (w : ℕ) (x : ℤ) → unsigned_abs (absolute_greatest once w x) ≤ w
greatest_size w (pos zero) = omega (arith, ints)
greatest_size w (pos (suc n)) = omega (arith, ints)
greatest_size w (negsuc n) = omega (arith, ints)

-- the sum of the rows' ends is at most their weight
pub int_sum_size : (f : Row → ℤ) → ((r : Row) → unsigned_abs (f r) ≤ r.weight) → (rows : List Row) → unsigned_abs (int_row_sum f rows) ≤ total_weight rows
int_sum_size f each [] = omega arith
int_sum_size f each (r ∷ rows) = omega (arith, ints, each r, sum_by-cons (λ (r : Row). r.weight) r rows, int_sum_size f each rows)
