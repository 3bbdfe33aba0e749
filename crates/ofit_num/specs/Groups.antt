use Rattle.std.specs.Prelude.{List}
use Rattle.ofit_num.specs.declared.row.Row.{Row}

-- the rows of each group, in order
abbrev pub RowLists : Type 0
RowLists = List (List Row)
