-- The columns of a header, by the names of its fields.
use Rattle.std.specs.Prelude.{◌≡◌, ◌<◌, ℕ, List, Option, Some, None, codes, slice_get}
use Rattle.ofit_table.specs.declared.column.Column.{Column}
use Rattle.ofit_table.specs.declared.column.Column.TheVariants.{Group, Value, Weight, Low, High}
use Rattle.ofit_table.specs.declared.fault.DataFault.{DataFault}
use Rattle.ofit_table.specs.declared.fault.DataFault.TheVariants.{NoColumn, ColumnTwice}
use Rattle.ofit_table.specs.declared.header.DataColumns.{DataColumns}

-- what a header calls a column
abbrev pub column_name : Column → List ℕ
column_name Group = codes "group"
column_name Value = codes "value"
column_name Weight = codes "weight"
column_name Low = codes "low"
column_name High = codes "high"

-- the field at this place has the column's name
abbrev pub IsNamedAt : List (List ℕ) → Column → ℕ → Type 0
IsNamedAt header column place = slice_get header place ≡ Some (column_name column)

-- no field of the header has the column's name
abbrev pub Lacks : List (List ℕ) → Column → Type 0
Lacks header column = (place : ℕ) → IsNamedAt header column place → ⊥

-- the field at this place has the column's name, and no other field does
pub record StandsAt (header : List (List ℕ)) (column : Column) (place : ℕ) : Type 0 where
  pub there : IsNamedAt header column place
  pub only : (other : ℕ) → IsNamedAt header column other → other ≡ place

-- just one field has the column's name
abbrev pub StandsOnce : List (List ℕ) → Column → Type 0
StandsOnce header column = (place : ℕ) × StandsAt header column place

-- two fields or more have the column's name
pub record StandsTwice (header : List (List ℕ)) (column : Column) : Type 0 where
  pub first : ℕ
  pub second : ℕ
  pub apart : first < second
  pub at_first : IsNamedAt header column first
  pub at_second : IsNamedAt header column second

-- a column that may be left out
abbrev pub MayStandAt : List (List ℕ) → Column → Option ℕ → Type 0
MayStandAt header column None = Lacks header column
MayStandAt header column (Some place) = StandsAt header column place

-- the places of a data table's columns
pub record AreColumns (header : List (List ℕ)) (columns : DataColumns) : Type 0 where
  pub group : StandsAt header Group columns.group
  pub value : StandsAt header Value columns.value
  pub weight : MayStandAt header Weight columns.weight

-- the first fault of a data table's header: of its group column, else of its value column, else of its weight column
abbrev pub HeaderFault : List (List ℕ) → DataFault → Type 0
HeaderFault header (NoColumn Group) = Lacks header Group
HeaderFault header (ColumnTwice Group) = StandsTwice header Group
HeaderFault header (NoColumn Value) = StandsOnce header Group × Lacks header Value
HeaderFault header (ColumnTwice Value) = StandsOnce header Group × StandsTwice header Value
HeaderFault header (ColumnTwice Weight) = StandsOnce header Group × StandsOnce header Value × StandsTwice header Weight
HeaderFault header fault = ⊥
