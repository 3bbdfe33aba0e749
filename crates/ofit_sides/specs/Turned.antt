-- A side read from its other end.
use Rattle.std.specs.Prelude.{◌≡◌, ◌-◌, ◌<◌, ℕ, ℤ, List, length}
use Rattle.ofit_sheet.specs.PeakVerdict.{value_at, amount_at, amount_before}

-- the steps of the other stand in reverse, each with the amount between its group and the next one here
pub record IsTurned (side other : List (ℤ × ℤ)) : Type 0 where
  pub count : length side ≡ length other
  pub values : (j : ℕ) → j < length other → value_at side j ≡ value_at other (length other - 1 - j)
  pub amounts : (j : ℕ) → j < length other → amount_at side j ≡ amount_before other (length other - 1 - j)
