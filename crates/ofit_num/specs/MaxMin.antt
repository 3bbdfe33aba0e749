-- The max-min formula of isotonic regression: the value of a group is the greatest, over the upper sets that hold the group, of the least, over the lower sets that hold it, of the weighted mean of the groups in both.
use Rattle.std.specs.Prelude.{◌≡◌, ℕ, Bool, true, ◌&&◌, cond, All, pos, ◌*ℤ◌}
use Rattle.ofit_num.specs.Fit.{sum_below}
use Rattle.ofit_num.specs.Fraction.{Fraction, AtMost}
use Rattle.ofit_num.specs.RowTotals.{total_weight}
use Rattle.ofit_num.specs.Loss.{int_row_sum}
use Rattle.ofit_num.specs.Problem.{Problem}
use Rattle.ofit_num.specs.Sets.{set_sum}

-- with the low end of a pair, the set holds its high end
abbrev pub IsUpper : Problem → (ℕ → Bool) → Type 0
IsUpper s set = All (λ e. set e.0 ≡ true → set e.1 ≡ true) s.pairs

-- with the high end of a pair, the set holds its low end
abbrev pub IsLower : Problem → (ℕ → Bool) → Type 0
IsLower s set = All (λ e. set e.1 ≡ true → set e.0 ≡ true) s.pairs

-- the groups in both sets
abbrev pub common : (ℕ → Bool) → (ℕ → Bool) → ℕ → Bool
common upper lower g = upper g && lower g

-- the weighted mean of the rows whose group is in both sets; where both hold a group with rows, it has rows
abbrev pub mean_of_common : Problem → (ℕ → Bool) → (ℕ → Bool) → Fraction
mean_of_common s upper lower = record {
  num = set_sum (common upper lower) (λ g. int_row_sum (λ r. r.value *ℤ pos r.weight) (s.rows g)) s.count;
  den = sum_below (λ g. cond (common upper lower g) (total_weight (s.rows g)) 0) s.count;
}

-- One upper set that holds the group has mean at least v with each lower set that holds it, and each upper set that holds it has mean at most v with one such lower set. The sets are finite in number, so v is
-- the greatest of the least means. No fit is named.
pub record MaxMin (s : Problem) (g : ℕ) (v : Fraction) : Type 0 where
  pub reached : (upper : ℕ → Bool) × IsUpper s upper × (upper g ≡ true) × ((lower : ℕ → Bool) → IsLower s lower → lower g ≡ true → AtMost v (mean_of_common s upper lower))
  pub greatest : (upper : ℕ → Bool) → IsUpper s upper → upper g ≡ true → (lower : ℕ → Bool) × IsLower s lower × (lower g ≡ true) × AtMost (mean_of_common s upper lower) v
