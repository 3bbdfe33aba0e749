-- What values a best fit gives blocks under squares.
use Rattle.std.specs.Prelude.{◌≡◌, ◌≤◌, ◌<◌, ◌⊎◌, ℕ, List, length, pos, ◌*ℤ◌, unsigned_abs}
use Rattle.ofit_num.specs.declared.limits.TheConstants.{MOST_UNITS}
use Rattle.ofit_num.specs.declared.row.Row.{Row}
use Rattle.ofit_num.specs.Fraction.{Fraction, IsLowest}
use Rattle.ofit_num.specs.RowTotals.{total_weight}
use Rattle.ofit_order.specs.Component.{AreMembers}
use Rattle.ofit_study.specs.declared.loss.LossKind.TheVariants.{Squares}
use Rattle.ofit_study.specs.Study.{Study}
use Rattle.ofit_loss.specs.Squares.{weighted_sum}
use Rattle.ofit_report.specs.Blocks.{block_order}
use Rattle.ofit_report.specs.Cost.{rows_among, block_value}

-- the value is the weighted mean of the rows
abbrev pub IsMean : List Row → Fraction → Type 0
IsMean rows value = value.num *ℤ pos (total_weight rows) ≡ weighted_sum rows *ℤ pos value.den

-- the value is a whole number of units, within the limit of bounds
abbrev pub IsWholeValue : Fraction → Type 0
IsWholeValue value = (value.den ≡ 1) × (unsigned_abs value.num ≤ MOST_UNITS)

-- under squares a best fit gives a block the weighted mean of its rows, or a bound
abbrev pub IsMeanOrWhole : List Row → Fraction → Type 0
IsMeanOrWhole rows value = IsMean rows value ⊎ IsWholeValue value

-- under squares each block's value, if it is in lowest terms, is the mean of the block's rows, or whole
pub record HasBlockMeans (s : Study) (values : List Fraction) : Type 0 where
  pub means : s.settings.loss ≡ Squares → (k : ℕ) (members : List ℕ) → AreMembers (block_order s values) k members → 0 < length members → IsLowest (block_value values members) → IsMeanOrWhole (rows_among s members) (block_value values members)
