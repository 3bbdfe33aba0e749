-- The kinds of a script's lines: the first field of each, and what stands in the fields behind it.
use Rattle.std.specs.Prelude.{◌≡◌, ℕ, Bool, true, false, List, [], ◌∷◌, Some, codes, slice_get}
use Rattle.ofit_script.specs.declared.kind.Kind.{Kind}
use Rattle.ofit_script.specs.declared.kind.Kind.TheVariants.{Add, Remove, Value, Weight, Relate, Unrelate, Report, Sheet}

abbrev pub kind_name : Kind → List ℕ
kind_name Add = codes "add"
kind_name Remove = codes "remove"
kind_name Value = codes "value"
kind_name Weight = codes "weight"
kind_name Relate = codes "relate"
kind_name Unrelate = codes "unrelate"
kind_name Report = codes "report"
kind_name Sheet = codes "sheet"

-- what a field holds: the name of a group, the number of a row, a value or a weight
pub data Field : Type 0 where
  group_name : Field
  row_number : Field
  row_value : Field
  row_weight : Field

-- the fields behind the first
abbrev pub kind_fields : Kind → List Field
kind_fields Add = group_name ∷ row_value ∷ row_weight ∷ []
kind_fields Remove = row_number ∷ []
kind_fields Value = row_number ∷ row_value ∷ []
kind_fields Weight = row_number ∷ row_weight ∷ []
kind_fields Relate = group_name ∷ group_name ∷ []
kind_fields Unrelate = group_name ∷ group_name ∷ []
kind_fields Report = []
kind_fields Sheet = []

-- a report or a sheet
abbrev pub prints : Kind → Bool
prints Add = false
prints Remove = false
prints Value = false
prints Weight = false
prints Relate = false
prints Unrelate = false
prints Report = true
prints Sheet = true

-- the first field of a record is that of the kind
abbrev pub IsOfKind : List (List ℕ) → Kind → Type 0
IsOfKind fields kind = slice_get fields 0 ≡ Some (kind_name kind)
