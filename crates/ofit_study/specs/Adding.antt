-- When a study takes a row more, and why it doesn't.
use Rattle.std.specs.Prelude.{◌≢◌, ◌≤◌, ◌<◌, ◌+◌, ◌⊎◌, ℕ, List, length, All, Contains}
use Rattle.ofit_num.specs.declared.limits.TheConstants.{MOST_WEIGHT}
use Rattle.ofit_study.specs.declared.fault.AddFault.{AddFault}
use Rattle.ofit_study.specs.declared.fault.AddFault.TheVariants.{TooManyRows, TooHeavy, TooManyGroups, Memory}
use Rattle.ofit_study.specs.Study.{Study, names_of, total_weight, most_rows, most_groups}

-- a name that the study has, or room for one more
abbrev pub HasGroupOrRoom : Study → List ℕ → Type 0
HasGroupOrRoom s name = Contains (names_of s) name ⊎ (length (names_of s) < most_groups)

-- no limit keeps the row out
pub record IsTaken (s : Study) (name : List ℕ) (weight : ℕ) : Type 0 where
  pub few : length s.rows < most_rows
  pub light : total_weight s.rows + weight ≤ MOST_WEIGHT
  pub group : HasGroupOrRoom s name

-- the first of the limits that keeps the row out; want of memory comes only where none does
abbrev pub IsRefused : Study → List ℕ → ℕ → AddFault → Type 0
IsRefused s name weight TooManyRows = most_rows ≤ length s.rows
IsRefused s name weight TooHeavy = (length s.rows < most_rows) × (MOST_WEIGHT < total_weight s.rows + weight)
IsRefused s name weight TooManyGroups = (length s.rows < most_rows) × (total_weight s.rows + weight ≤ MOST_WEIGHT) × All (λ known. known ≢ name) (names_of s) × (most_groups ≤ length (names_of s))
IsRefused s name weight Memory = IsTaken s name weight
