-- The least minimisers of the table's losses, by the rows alone.
use Rattle.std.specs.Prelude.{◌≡◌, ℕ, ◌+◌, ◌*◌, ◌≤◌, List, All, Any, ℤ, ◌≤ℤ◌}
use Rattle.ofit_num.specs.declared.row.Row.{Row}
use Rattle.ofit_num.specs.Fraction.{Fraction}
use Rattle.ofit_num.specs.RowTotals.{total_weight}
use Rattle.ofit_loss.specs.Squares.{weighted_sum}
use Rattle.ofit_loss.specs.Quantile.{weight_upto}

-- the weighted sum over the weight
abbrev pub weighted_mean : List Row → Fraction
weighted_mean rows = record { num = weighted_sum rows; den = total_weight rows }

-- the least value of a row such that the rows at most there are the share above / (above + below) of the weight
pub record IsLeastRowValue (above below : ℕ) (rows : List Row) (v : ℤ) : Type 0 where
  pub row : Any (λ r. r.value ≡ v) rows
  pub reached : above * total_weight rows ≤ (above + below) * weight_upto v rows
  pub first : All (λ r. above * total_weight rows ≤ (above + below) * weight_upto r.value rows → v ≤ℤ r.value) rows
