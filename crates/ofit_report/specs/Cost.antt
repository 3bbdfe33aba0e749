-- What rows cost at a value.
use Rattle.std.specs.Prelude.{◌^◌, ℕ, List, map, slice_index, pos}
use Rattle.ofit_num.specs.declared.row.Row.{Row}
use Rattle.ofit_num.specs.Fraction.{Fraction}
use Rattle.ofit_num.specs.RowTotals.{all_rows}
use Rattle.ofit_num.specs.Meaning.{Meaning}
use Rattle.ofit_num.specs.Reduced.{Reduces}
use Rattle.ofit_study.specs.Study.{Study, problem_stated}
use Rattle.ofit_report.specs.Tight.{value_at}

-- the rows of the groups at these places, one group after another
abbrev pub rows_among : Study → List ℕ → List Row
rows_among s members = all_rows (map (problem_stated s).rows members)

-- the value of a block with these members, which is that of its first one
abbrev pub block_value : List Fraction → List ℕ → Fraction
block_value values members = value_at values (slice_index members 0)

-- the cost at n/d, over d to the degree, in lowest terms
abbrev pub IsCost : Meaning → List Row → Fraction → Fraction → Type 0
IsCost m rows value cost = Reduces (pos (m.cost rows value.num value.den)) (pos (value.den ^ m.degree)) cost
