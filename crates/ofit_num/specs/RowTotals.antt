-- The rows of groups together, and their weight.
use Rattle.std.specs.Prelude.{ℕ, List, [], ◌∷◌, ◌++◌, sum_by}
use Rattle.ofit_num.specs.declared.row.Row.{Row}

abbrev pub total_weight : List Row → ℕ
total_weight rows = sum_by (λ r. r.weight) rows

-- the rows of all groups, one group after another
abbrev pub all_rows : List (List Row) → List Row
all_rows [] = []
all_rows (rows ∷ groups) = rows ++ all_rows groups
