-- A sheet: values with the flows that are to certify them.
use Rattle.std.specs.Prelude.{ℕ, ◌<◌, cond, nat_eq, List, [], ◌∷◌, map, Option, Some, None, All, AllPairs, pos, unwrap_or}
use Rattle.ofit_num.specs.Fraction.{Fraction, IsLowest}
use Rattle.ofit_num.specs.Flow.{Flow}

-- how many rows the study has, and their total weight
pub record Size : Type 0 where
  pub rows : ℕ
  pub weight : ℕ

-- the value of one place
pub record Entry : Type 0 where
  pub place : ℕ
  pub value : Fraction

-- The type of settings is the layer's that has a study, since here they are only compared whole.
pub record Sheet (S : Type 0) : Type 0 where
  pub settings : S
  pub size : Option Size
  pub values : List Entry
  pub flows : List Flow

-- the sheet fits the count of groups: its places are below the count and rise, its values are in lowest terms, its amounts at least 1
pub record FitsCount {S : Type 0} (n : ℕ) (x : Sheet S) : Type 0 where
  pub places : All (λ e. e.place < n) x.values
  pub rising : AllPairs (λ e f. e.place < f.place) x.values
  pub lowest : All (λ e. IsLowest e.value) x.values
  pub ends : All (λ f. (f.low < n) × (f.high < n)) x.flows
  pub amounts : All (λ f. 0 < f.amount) x.flows

-- the value that the entries give a place, if one does
abbrev pub entry_value : List Entry → ℕ → Option Fraction
entry_value [] g = None
entry_value (e ∷ es) g = cond (nat_eq e.place g) (Some e.value) (entry_value es g)

-- the sheet's value at a place, 0 where it has none
abbrev pub sheet_value : {S : Type 0} → Sheet S → ℕ → Fraction
sheet_value x g = unwrap_or (entry_value x.values g) (record { num = pos 0; den = 1 })

-- the sheet's values in the order of their places
abbrev pub sheet_values : {S : Type 0} → Sheet S → List Fraction
sheet_values x = map (λ e. e.value) x.values
