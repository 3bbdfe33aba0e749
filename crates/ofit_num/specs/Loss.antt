-- The losses of the table, made by their degree and by what a residual above and below 0 counts.
use Rattle.std.specs.Prelude.{ℕ, ◌+◌, ◌*◌, ◌^◌, cond, nat_eq, List, [], ◌∷◌, ℤ, pos, negsuc, ◌+ℤ◌, ◌-ℤ◌, ◌*ℤ◌, zero, suc, unsigned_abs}
use Rattle.ofit_num.specs.declared.row.Row.{Row}
use Rattle.ofit_num.specs.Meaning.{Meaning}

-- what a residual above 0 counts, and one at most 0
pub record Factors : Type 0 where
  pub above : ℕ
  pub below : ℕ

-- what the row's value is above p/q, times q
abbrev pub residual : Row → ℤ → ℕ → ℤ
residual r p q = pos q *ℤ r.value -ℤ p

-- what a residual counts
abbrev pub factor_of : Factors → ℤ → ℕ
factor_of k (pos zero) = k.below
factor_of k (pos (suc n)) = k.above
factor_of k (negsuc n) = k.below

-- the sum of f over the rows
abbrev pub row_sum : (Row → ℕ) → List Row → ℕ
row_sum f [] = 0
row_sum f (r ∷ rs) = f r + row_sum f rs

abbrev pub int_row_sum : (Row → ℤ) → List Row → ℤ
int_row_sum f [] = pos 0
int_row_sum f (r ∷ rs) = f r +ℤ int_row_sum f rs

-- degree 1: absolute residuals, whose slope jumps at 0
abbrev pub absolute_least : Factors → ℕ → ℤ → ℤ
absolute_least k w (pos zero) = pos 0 -ℤ pos (w * k.below)
absolute_least k w (pos (suc n)) = pos (w * k.above)
absolute_least k w (negsuc n) = pos 0 -ℤ pos (w * k.below)

abbrev pub absolute_greatest : Factors → ℕ → ℤ → ℤ
absolute_greatest k w (pos zero) = pos (w * k.above)
absolute_greatest k w (pos (suc n)) = pos (w * k.above)
absolute_greatest k w (negsuc n) = pos 0 -ℤ pos (w * k.below)

-- degree 2: squared residuals, whose half slope is both ends
abbrev pub squared_end : Factors → ℕ → ℤ → ℤ
squared_end k w x = pos (w * factor_of k x) *ℤ x

-- The loss of a degree, 1 or 2, and its factors: a row costs its weight times the factor times the residual's absolute value to the degree.
abbrev pub table_loss : ℕ → Factors → Meaning
table_loss d k = record {
  degree = d;
  cost = λ rows p q. row_sum (λ r. r.weight * (factor_of k (residual r p q) * unsigned_abs (residual r p q) ^ d)) rows;
  least = λ rows p q. int_row_sum (λ r. cond (nat_eq d 1) (absolute_least k r.weight (residual r p q)) (squared_end k r.weight (residual r p q))) rows;
  greatest = λ rows p q. int_row_sum (λ r. cond (nat_eq d 1) (absolute_greatest k r.weight (residual r p q)) (squared_end k r.weight (residual r p q))) rows;
}

abbrev pub squares : Meaning
squares = table_loss 2 (record { above = 1; below = 1 })

abbrev pub median : Meaning
median = table_loss 1 (record { above = 1; below = 1 })
