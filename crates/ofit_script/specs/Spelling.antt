-- What the fields of a record spell: a line, or why none.
use Rattle.std.specs.Prelude.{◌≡◌, ◌≢◌, ◌≤◌, ◌<◌, ◌+◌, ◌⊎◌, ℕ, ℤ, true, List, [], ◌∷◌, length, drop, Err}
use Rattle.ofit_num.specs.declared.decimal.NumFault.{NumFault}
use Rattle.ofit_num.specs.declared.decimal.NumFault.TheVariants as num
use Rattle.ofit_study.specs.declared.edit.Edit.TheVariants.{Add, Remove, Value, Weight, Relate, Unrelate}
use Rattle.ofit_study.specs.FieldRead.{IsRowNumber, IsValue, IsWeight, ValueRead}
use Rattle.ofit_study.specs.Name.{IsName}
use Rattle.ofit_script.specs.declared.fault.ScriptFault.{ScriptFault}
use Rattle.ofit_script.specs.declared.fault.ScriptFault.TheVariants.{TooManyLines, TooManyPrints, UnknownLine, FieldCount, NotName, BadRow, NotNumber, TooFine, TooLarge, BadWeight}
use Rattle.ofit_script.specs.declared.kind.Kind.{Kind}
use Rattle.ofit_script.specs.declared.kind.Kind.TheVariants as kind
use Rattle.ofit_script.specs.declared.line.Line.{Line}
use Rattle.ofit_script.specs.declared.line.Line.TheVariants.{Change, Report, Sheet}
use Rattle.ofit_script.specs.Kinds.{Field, group_name, row_number, row_value, row_weight, kind_name, kind_fields, prints, IsOfKind}
use Rattle.ofit_script.specs.Lines.{most_lines, most_prints, print_count}

-- the fields spell the line, its value in units of 10^(-places)
abbrev pub Spells : ℕ → List (List ℕ) → Line → Type 0
Spells places fields (Change (Add group value weight)) =
    (amount : List ℕ) × (size : List ℕ) × (fields ≡ kind_name kind.Add ∷ group ∷ amount ∷ size ∷ []) × IsName group × IsValue places amount value × IsWeight size weight
Spells places fields (Change (Remove number)) = (row : List ℕ) × (fields ≡ kind_name kind.Remove ∷ row ∷ []) × IsRowNumber row number
Spells places fields (Change (Value number value)) =
    (row : List ℕ) × (amount : List ℕ) × (fields ≡ kind_name kind.Value ∷ row ∷ amount ∷ []) × IsRowNumber row number × IsValue places amount value
Spells places fields (Change (Weight number weight)) =
    (row : List ℕ) × (size : List ℕ) × (fields ≡ kind_name kind.Weight ∷ row ∷ size ∷ []) × IsRowNumber row number × IsWeight size weight
Spells places fields (Change (Relate low high)) = (fields ≡ kind_name kind.Relate ∷ low ∷ high ∷ []) × IsName low × IsName high
Spells places fields (Change (Unrelate low high)) = (fields ≡ kind_name kind.Unrelate ∷ low ∷ high ∷ []) × IsName low × IsName high
Spells places fields Report = fields ≡ kind_name kind.Report ∷ []
Spells places fields Sheet = fields ≡ kind_name kind.Sheet ∷ []

-- the text may stand in such a field
abbrev pub FitsField : ℕ → Field → List ℕ → Type 0
FitsField places group_name text = IsName text
FitsField places row_number text = (n : ℕ) × IsRowNumber text n
FitsField places row_value text = (z : ℤ) × IsValue places text z
FitsField places row_weight text = (n : ℕ) × IsWeight text n

-- the fault of the record with this number whose value isn't read
abbrev pub value_fault : NumFault → ℕ → ScriptFault
value_fault num.NotNumber number = NotNumber number
value_fault num.TooFine number = TooFine number
value_fault num.TooLarge number = TooLarge number

-- the text may not stand in such a field of the record with this number, which gives the fault
abbrev pub FieldFault : ℕ → Field → List ℕ → ℕ → ScriptFault → Type 0
FieldFault places group_name text number fault = (fault ≡ NotName number) × (IsName text → ⊥)
FieldFault places row_number text number fault = (fault ≡ BadRow number) × ((n : ℕ) → IsRowNumber text n → ⊥)
FieldFault places row_value text number fault = (why : NumFault) × (fault ≡ value_fault why number) × ValueRead places text (Err why)
FieldFault places row_weight text number fault = (fault ≡ BadWeight number) × ((n : ℕ) → IsWeight text n → ⊥)

-- the first of the texts that may not stand in its field gives the fault
abbrev pub FieldsFault : ℕ → List Field → List (List ℕ) → ℕ → ScriptFault → Type 0
FieldsFault places [] texts number fault = ⊥
FieldsFault places (field ∷ fields) [] number fault = ⊥
FieldsFault places (field ∷ fields) (text ∷ texts) number fault = FieldFault places field text number fault ⊎ (FitsField places field text × FieldsFault places fields texts number fault)

-- the record has the first field of the kind, and as many fields as a line of it
pub record IsShaped (fields : List (List ℕ)) (kind : Kind) : Type 0 where
  pub of : IsOfKind fields kind
  pub count : length fields ≡ 1 + length (kind_fields kind)

-- the first fault of the record with this number behind these lines
pub data RecordFault (places : ℕ) (before : List Line) (fields : List (List ℕ)) (number : ℕ) (fault : ScriptFault) : Type 0 where
  too_many_lines : most_lines ≤ length before → fault ≡ TooManyLines number → RecordFault places before fields number fault
  unknown_line : length before < most_lines → ((kind : Kind) → IsOfKind fields kind → ⊥) → fault ≡ UnknownLine number → RecordFault places before fields number fault
  field_count : length before < most_lines → (kind : Kind) → IsOfKind fields kind → length fields ≢ 1 + length (kind_fields kind) → fault ≡ FieldCount number → RecordFault places before fields number fault
  too_many_prints : length before < most_lines → (kind : Kind) → IsShaped fields kind → prints kind ≡ true → most_prints ≤ print_count before → fault ≡ TooManyPrints number → RecordFault places before fields number fault
  bad_field : length before < most_lines → (kind : Kind) → IsShaped fields kind → FieldsFault places (kind_fields kind) (drop 1 fields) number fault → RecordFault places before fields number fault
