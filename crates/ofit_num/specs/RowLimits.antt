-- Rows within their limits, each by itself and together.
use Rattle.std.specs.Prelude.{◌≤◌, List, All, unsigned_abs}
use Rattle.ofit_num.specs.declared.limits.TheConstants.{MOST_UNITS, MOST_WEIGHT}
use Rattle.ofit_num.specs.declared.row.Row.{Row}
use Rattle.ofit_num.specs.RowTotals.{total_weight}

-- a weight is at most that of all rows by the total
pub record IsRowWithinLimits (r : Row) : Type 0 where
  pub value : unsigned_abs r.value ≤ MOST_UNITS
  pub weight : 1 ≤ r.weight

-- each row by itself, and all together
pub record AreWithinLimits (rows : List Row) : Type 0 where
  pub each : All IsRowWithinLimits rows
  pub together : total_weight rows ≤ MOST_WEIGHT
