-- The pairs of an order file.
use Rattle.std.specs.Prelude.{◌≡◌, ◌≢◌, ◌≤◌, ◌⊎◌, ◌↔◌, ℕ, List, Some, All, AllPairs, Contains, length, slice_get}
use Rattle.std.specs.List.{AllZip}
use Rattle.ofit_study.specs.Study.{most_pairs}
use Rattle.ofit_table.specs.declared.column.Column.TheVariants.{Low, High}
use Rattle.ofit_table.specs.declared.fault.OrderFault.{OrderFault}
use Rattle.ofit_table.specs.declared.fault.OrderFault.TheVariants.{NoColumn, ColumnTwice, FieldMissing, UnknownGroup, TooManyPairs}
use Rattle.ofit_table.specs.declared.header.OrderColumns.{OrderColumns}
use Rattle.ofit_table.specs.Columns.{Lacks, StandsAt, StandsOnce, StandsTwice}

-- the places of an order file's columns
pub record AreOrderColumns (header : List (List ℕ)) (columns : OrderColumns) : Type 0 where
  pub low : StandsAt header Low columns.low
  pub high : StandsAt header High columns.high

-- the first fault of an order file's header: of its low column, else of its high column
abbrev pub OrderHeaderFault : List (List ℕ) → OrderFault → Type 0
OrderHeaderFault header (NoColumn Low) = Lacks header Low
OrderHeaderFault header (ColumnTwice Low) = StandsTwice header Low
OrderHeaderFault header (NoColumn High) = StandsOnce header Low × Lacks header High
OrderHeaderFault header (ColumnTwice High) = StandsOnce header Low × StandsTwice header High
OrderHeaderFault header fault = ⊥

-- the names that a record relates
pub record AreEnds (columns : OrderColumns) (fields : List (List ℕ)) (low high : List ℕ) : Type 0 where
  pub at_low : slice_get fields columns.low ≡ Some low
  pub at_high : slice_get fields columns.high ≡ Some high

-- the places of the two groups that a record relates
pub record IsPair (columns : OrderColumns) (names : List (List ℕ)) (fields : List (List ℕ)) (pair : ℕ × ℕ) : Type 0 where
  pub low : List ℕ
  pub high : List ℕ
  pub ends : AreEnds columns fields low high
  pub low_place : slice_get names pair.0 ≡ Some low
  pub high_place : slice_get names pair.1 ≡ Some high

-- the same pairs, each once
pub record AreDistinct (pairs known : List (ℕ × ℕ)) : Type 0 where
  pub each : AllPairs (λ a b. a ≢ b) known
  pub same : (e : ℕ × ℕ) → Contains known e ↔ Contains pairs e

-- the pairs of records without a fault: each record's pair, and equal ones count once
pub record ArePairs (columns : OrderColumns) (names : List (List ℕ)) (records : List (List (List ℕ))) (pairs : List (ℕ × ℕ)) : Type 0 where
  pub each : AllZip (IsPair columns names) records pairs
  pub known : List (ℕ × ℕ)
  pub distinct : AreDistinct pairs known
  pub few : length known ≤ most_pairs

-- no group has the name
abbrev pub IsUnknown : List (List ℕ) → List ℕ → Type 0
IsUnknown names name = All (λ known. known ≢ name) names

-- the first fault of a record with this number alone
abbrev pub OwnPairFault : OrderColumns → List (List ℕ) → List (List ℕ) → ℕ → OrderFault → Type 0
OwnPairFault columns names fields number (FieldMissing n) = (n ≡ number) × ((length fields ≤ columns.low) ⊎ (length fields ≤ columns.high))
OwnPairFault columns names fields number (UnknownGroup n) =
    (n ≡ number) × (low : List ℕ) × (high : List ℕ) × AreEnds columns fields low high × (IsUnknown names low ⊎ IsUnknown names high)
OwnPairFault columns names fields number fault = ⊥

-- a record with this number and without a fault of its own whose pair is new behind as many pairs as there may be
pub record IsPairTooMany (columns : OrderColumns) (names : List (List ℕ)) (before : List (ℕ × ℕ)) (fields : List (List ℕ)) (number : ℕ) (fault : OrderFault) : Type 0 where
  pub is : fault ≡ TooManyPairs number
  pub pair : ℕ × ℕ
  pub related : IsPair columns names fields pair
  pub new : All (λ earlier. earlier ≢ pair) before
  pub known : List (ℕ × ℕ)
  pub distinct : AreDistinct before known
  pub full : most_pairs ≤ length known

-- the first fault of a record with this number behind these pairs: its own, or else that its pair is one too many
abbrev pub PairFault : OrderColumns → List (List ℕ) → List (ℕ × ℕ) → List (List ℕ) → ℕ → OrderFault → Type 0
PairFault columns names before fields number fault = OwnPairFault columns names fields number fault ⊎ IsPairTooMany columns names before fields number fault
