-- The rows that a loss takes.
use Rattle.std.specs.Prelude.{ℕ, ◌≤◌, List, count_by, nat_lt}
use Rattle.ofit_num.specs.declared.row.Row.{Row}
use Rattle.ofit_num.specs.RowLimits.{AreWithinLimits}

-- the greatest number of a plain row; the two above it are of rows that no study has
abbrev pub last_plain : ℕ
last_plain = 4294967293

-- a row whose number is that of an observation
abbrev pub IsPlain : Row → Type 0
IsPlain r = r.number ≤ last_plain

-- how many of the rows aren't plain
abbrev pub special_count : List Row → ℕ
special_count rows = count_by (λ r. nat_lt last_plain r.number) rows

-- the rows are within the limits, also together, and few of them are special
pub record AreFittable (rows : List Row) : Type 0 where
  pub limits : AreWithinLimits rows
  pub special : special_count rows ≤ 4000
