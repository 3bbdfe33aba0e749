-- A study with a row more, as it is made.
use Rattle.std.specs.Prelude.{◌≡◌, ◌≢◌, ◌≤◌, ◌<◌, ◌+◌, ◌++◌, ℕ, List, [], ◌∷◌, Option, Some, MatchOption, length, slice_get, slice_index_or, All}
use Rattle.ofit_num.specs.declared.row.Row.{Row}
use Rattle.ofit_study.specs.Study.{Observation, Study, names_of}

-- the row in the group of this name
abbrev pub observation : List ℕ → Row → Observation
observation name row = record { number = row.number; group = name; value = row.value; weight = row.weight }

abbrev pub with_row : Study → Observation → Study
with_row s r = record s { rows = s.rows ++ r ∷ [] }

-- the place of the group of this name, or none where the name is new
abbrev pub IsPlaceOf : Study → List ℕ → Option ℕ → Type 0
IsPlaceOf s name place = MatchOption place (All (λ known. known ≢ name) (names_of s)) (λ p. slice_get (names_of s) p ≡ Some name)

-- so many numbers are those from 1 on, and the next one after them is not among them
pub record IsFirstGap (numbers : List ℕ) (place : ℕ) : Type 0 where
  pub inside : place ≤ length numbers
  pub before : (k : ℕ) → k < place → slice_index_or numbers k 0 ≡ k + 1
  pub behind : place < length numbers → place + 1 < slice_index_or numbers place 0
