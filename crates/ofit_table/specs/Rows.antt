-- The rows of a data table.
use Rattle.std.specs.Prelude.{◌≡◌, ◌≢◌, ◌≤◌, ◌<◌, ◌+◌, ◌⊎◌, ℕ, ℤ, List, Option, Some, None, Err, All, length, slice_get, ⊤}
use Rattle.std.specs.List.{AllZip}
use Rattle.ofit_num.specs.declared.decimal.NumFault.{NumFault}
use Rattle.ofit_num.specs.declared.decimal.NumFault.TheVariants as num
use Rattle.ofit_num.specs.declared.limits.TheConstants.{MOST_WEIGHT}
use Rattle.ofit_study.specs.FieldRead.{IsValue, IsWeight, ValueRead}
use Rattle.ofit_table.specs.Numbered.{AreNumbered}
use Rattle.ofit_study.specs.Name.{IsName}
use Rattle.ofit_study.specs.Study.{Observation, group_names, most_groups, most_rows, total_weight}
use Rattle.ofit_table.specs.declared.fault.DataFault.{DataFault}
use Rattle.ofit_table.specs.declared.fault.DataFault.TheVariants.{FieldMissing, NotName, NotNumber, TooFine, TooLarge, BadWeight, TooManyRows, TooHeavy, TooManyGroups}
use Rattle.ofit_table.specs.declared.header.DataColumns.{DataColumns}

-- the fields of a record that are used
pub record Texts : Type 0 where
  pub group : List ℕ
  pub value : List ℕ
  pub weight : Option (List ℕ)

-- the weight's field, where there is a weight column
abbrev pub IsWeightText : Option ℕ → List (List ℕ) → Option (List ℕ) → Type 0
IsWeightText None fields None = ⊤
IsWeightText (Some place) fields (Some text) = slice_get fields place ≡ Some text
IsWeightText place fields text = ⊥

-- these are the fields of the record that are used
pub record AreTexts (columns : DataColumns) (fields : List (List ℕ)) (texts : Texts) : Type 0 where
  pub group : slice_get fields columns.group ≡ Some texts.group
  pub value : slice_get fields columns.value ≡ Some texts.value
  pub weight : IsWeightText columns.weight fields texts.weight

-- the record is too short for a column that may be left out
abbrev pub IsShortOf : Option ℕ → List (List ℕ) → Type 0
IsShortOf None fields = ⊥
IsShortOf (Some place) fields = length fields ≤ place

-- the record is too short for a column that is used
abbrev pub IsTooShort : DataColumns → List (List ℕ) → Type 0
IsTooShort columns fields = (length fields ≤ columns.group) ⊎ (length fields ≤ columns.value) ⊎ IsShortOf columns.weight fields

-- the weight that its field gives, and 1 where there is no weight column
abbrev pub IsRowWeight : Option (List ℕ) → ℕ → Type 0
IsRowWeight None weight = weight ≡ 1
IsRowWeight (Some text) weight = IsWeight text weight

-- what stands in a record without a fault of its own
pub record IsGood (places : ℕ) (columns : DataColumns) (fields : List (List ℕ)) (group : List ℕ) (value : ℤ) (weight : ℕ) : Type 0 where
  pub texts : Texts
  pub taken : AreTexts columns fields texts
  pub same : texts.group ≡ group
  pub name : IsName group
  pub is_value : IsValue places texts.value value
  pub is_weight : IsRowWeight texts.weight weight

-- the record's row
abbrev pub IsRow : ℕ → DataColumns → List (List ℕ) → Observation → Type 0
IsRow places columns fields row = IsGood places columns fields row.group row.value row.weight

-- the rows of records without a fault: each record's row, numbered from 1 on, within the limits
pub record AreRows (places : ℕ) (columns : DataColumns) (records : List (List (List ℕ))) (rows : List Observation) : Type 0 where
  pub each : AllZip (IsRow places columns) records rows
  pub numbered : AreNumbered rows
  pub few : length rows ≤ most_rows
  pub light : total_weight rows ≤ MOST_WEIGHT
  pub groups : length (group_names rows) ≤ most_groups

-- the used fields of a record are these, and its group is a name
pub record AreNamed (columns : DataColumns) (fields : List (List ℕ)) (texts : Texts) : Type 0 where
  pub taken : AreTexts columns fields texts
  pub name : IsName texts.group

-- the group is a name, and the value isn't read
abbrev pub HasValueFault : ℕ → DataColumns → List (List ℕ) → NumFault → Type 0
HasValueFault places columns fields fault = (texts : Texts) × AreNamed columns fields texts × ValueRead places texts.value (Err fault)

-- the first fault of a record with this number alone
abbrev pub OwnFault : ℕ → DataColumns → List (List ℕ) → ℕ → DataFault → Type 0
OwnFault places columns fields number (FieldMissing n) = (n ≡ number) × IsTooShort columns fields
OwnFault places columns fields number (NotName n) = (n ≡ number) × (texts : Texts) × AreTexts columns fields texts × (IsName texts.group → ⊥)
OwnFault places columns fields number (NotNumber n) = (n ≡ number) × HasValueFault places columns fields num.NotNumber
OwnFault places columns fields number (TooFine n) = (n ≡ number) × HasValueFault places columns fields num.TooFine
OwnFault places columns fields number (TooLarge n) = (n ≡ number) × HasValueFault places columns fields num.TooLarge
OwnFault places columns fields number (BadWeight n) =
    (n ≡ number) × (texts : Texts) × AreNamed columns fields texts × ((value : ℤ) × IsValue places texts.value value)
    × ((weight : ℕ) → IsRowWeight texts.weight weight → ⊥)
OwnFault places columns fields number fault = ⊥

-- the first limit that a row of this group and weight passes behind these rows
abbrev pub LimitFault : List Observation → List ℕ → ℕ → ℕ → DataFault → Type 0
LimitFault before group weight number (TooManyRows n) = (n ≡ number) × (most_rows ≤ length before)
LimitFault before group weight number (TooHeavy n) = (n ≡ number) × (length before < most_rows) × (MOST_WEIGHT < total_weight before + weight)
LimitFault before group weight number (TooManyGroups n) =
    (n ≡ number) × (length before < most_rows) × (total_weight before + weight ≤ MOST_WEIGHT)
    × All (λ known. known ≢ group) (group_names before) × (most_groups ≤ length (group_names before))
LimitFault before group weight number fault = ⊥

-- a record without a fault of its own whose row passes a limit behind these rows
pub record IsTooMuch (places : ℕ) (columns : DataColumns) (before : List Observation) (fields : List (List ℕ)) (number : ℕ) (fault : DataFault) : Type 0 where
  pub group : List ℕ
  pub value : ℤ
  pub weight : ℕ
  pub good : IsGood places columns fields group value weight
  pub passed : LimitFault before group weight number fault

-- the first fault of a record with this number behind these rows: its own, or else the limit that it passes
abbrev pub RowFault : ℕ → DataColumns → List Observation → List (List ℕ) → ℕ → DataFault → Type 0
RowFault places columns before fields number fault = OwnFault places columns fields number fault ⊎ IsTooMuch places columns before fields number fault
