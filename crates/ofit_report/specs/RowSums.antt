-- What rows add to the sums of which a cost is made.
use Rattle.std.specs.Prelude.{◌*◌, ℕ, ℤ, List, pos, ◌*ℤ◌, unsigned_abs}
use Rattle.ofit_num.specs.declared.row.Row.{Row}
use Rattle.ofit_num.specs.Fraction.{Fraction}
use Rattle.ofit_num.specs.Loss.{int_row_sum, residual}

-- a row's weight times its distance from the value, over the value's denominator
abbrev pub distance : Row → Fraction → ℕ
distance r value = unsigned_abs (residual r value.num value.den) * r.weight

-- the sum of the squared values, each times its weight
abbrev pub weighted_squares : List Row → ℤ
weighted_squares rows = int_row_sum (λ r. (r.value *ℤ r.value) *ℤ pos r.weight) rows
