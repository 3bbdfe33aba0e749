-- How often a column stands in a header.
use Rattle.std.specs.Prelude.{ℕ, List}
use Rattle.ofit_table.specs.declared.column.Column.{Column}
use Rattle.ofit_table.specs.declared.header.Stands.{Stands}
use Rattle.ofit_table.specs.declared.header.Stands.TheVariants.{Nowhere, At, Twice}
use Rattle.ofit_table.specs.Columns.{Lacks, StandsAt, StandsTwice}

abbrev pub IsStanding : List (List ℕ) → Column → Stands → Type 0
IsStanding header column Nowhere = Lacks header column
IsStanding header column (At place) = StandsAt header column place
IsStanding header column Twice = StandsTwice header column
