-- What a pool of squares keeps of its rows.
use Rattle.std.specs.Prelude.{List, ℤ, pos, ◌*ℤ◌}
use Rattle.ofit_num.specs.declared.row.Row.{Row}
use Rattle.ofit_num.specs.Loss.{int_row_sum}

-- the sum of the values, each times its weight
abbrev pub weighted_sum : List Row → ℤ
weighted_sum rows = int_row_sum (λ r. r.value *ℤ pos r.weight) rows
