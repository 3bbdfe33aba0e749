-- What a field with a value, a weight or a row's number is read as.
use Rattle.std.specs.Prelude.{◌≤◌, ℕ, ℤ, pos, List, Result, Ok}
use Rattle.ofit_num.specs.declared.decimal.NumFault.{NumFault}
use Rattle.ofit_num.specs.declared.limits.TheConstants.{MOST_UNITS, MOST_WEIGHT}
use Rattle.ofit_num.specs.DecimalText.{UnitsRead}
use Rattle.ofit_num.specs.NumberText.{IsWhole}

-- a value in units of 10^(-places), at most 10^9 of them in absolute value, or the first of three faults
abbrev pub ValueRead : ℕ → List ℕ → Result ℤ NumFault → Type 0
ValueRead places text result = UnitsRead text places MOST_UNITS result

abbrev pub IsValue : ℕ → List ℕ → ℤ → Type 0
IsValue places text value = ValueRead places text (Ok value)

-- a whole number from 1 to 10^10 that a decimal spells
abbrev pub IsWeight : List ℕ → ℕ → Type 0
IsWeight text weight = UnitsRead text 0 MOST_WEIGHT (Ok (pos weight)) × (1 ≤ weight)

-- the canonical text of a whole number from low to high
pub record IsNumberIn (low high : ℕ) (text : List ℕ) (n : ℕ) : Type 0 where
  pub is_whole : IsWhole text n
  pub at_least : low ≤ n
  pub at_most : n ≤ high

-- the number of a row, which a study may have or not
abbrev pub IsRowNumber : List ℕ → ℕ → Type 0
IsRowNumber text n = IsNumberIn 1 4294967295 text n
