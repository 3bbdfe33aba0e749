-- A study: settings, rows of named groups, and pairs of groups, the low one of which is to be at most the high one.
use Rattle.std.specs.Prelude.{◌≡◌, ◌≤◌, ◌<◌, ◌++◌, ◌⊎◌, ◌↔◌, ℕ, Bool, not, nat_eq, ℤ, List, [], ◌∷◌, length, map, filter, sum_by, unsigned_abs, All, AllPairs, Contains}
use Rattle.std.specs.Cmp.Lexicographic.{pointwise, slice_cmp}
use Rattle.std.specs.Ordering.{nat_cmp}
use Rattle.std.specs.declared.cmp.Ordering.TheVariants.{Less}
use Rattle.std.specs.List.{position_or_len}
use Rattle.ofit_num.specs.declared.row.Row.{Row}
use Rattle.ofit_num.specs.Problem.{Problem, Bounds, problem_of}
use Rattle.ofit_study.specs.declared.settings.Settings.{Settings}
use Rattle.ofit_study.specs.Name.{IsName}
use Rattle.ofit_study.specs.Settings.{InLimits}
use Rattle.ofit_num.specs.declared.limits.TheConstants.{MOST_UNITS, MOST_WEIGHT}
pub use Rattle.ofit_num.specs.declared.limits.TheConstants.{MOST_ROWS as most_rows, MOST_GROUPS as most_groups, MOST_PAIRS as most_pairs}
pub use Rattle.ofit_study.specs.Loss.{meaning_of}

-- a row: its number, the bytes of its group's name, its value in units and its weight
pub record Observation : Type 0 where
  pub number : ℕ
  pub group : List ℕ
  pub value : ℤ
  pub weight : ℕ

-- the rows by rising number, and the pairs (low name, high name) by the bytes of low, then high
pub record Study : Type 0 where
  pub settings : Settings
  pub rows : List Observation
  pub pairs : List (List ℕ × List ℕ)

-- the names are the same bytes
abbrev pub is_same_name : List ℕ → List ℕ → Bool
is_same_name = pointwise nat_eq

-- the names of the rows' groups, each once, in the order of their first rows
abbrev pub group_names : List Observation → List (List ℕ)
group_names [] = []
group_names (r ∷ rs) = r.group ∷ filter (λ name. not (is_same_name r.group name)) (group_names rs)

-- a row without its group
abbrev pub plain_row : Observation → Row
plain_row r = record { number = r.number; value = r.value; weight = r.weight }

-- the rows of the group of this name, in their order
abbrev pub rows_named : List Observation → List ℕ → List Row
rows_named rows name = map plain_row (filter (λ r. is_same_name name r.group) rows)

-- the groups of a study: at each place a name, and the rows of that group
abbrev pub names_of : Study → List (List ℕ)
names_of s = group_names s.rows

abbrev pub groups_of : Study → List (List Row)
groups_of s = map (rows_named s.rows) (names_of s)

-- the place of a name among the names, and their count where it isn't one of them
abbrev pub place_among : List (List ℕ) → List ℕ → ℕ
place_among names name = position_or_len (is_same_name name) names

-- the pairs by the places of their groups, in the order of the pairs
abbrev pub places_of : Study → List (ℕ × ℕ)
places_of s = map (λ e. (place_among (names_of s) e.0, place_among (names_of s) e.1)) s.pairs

-- the bounds of each group are those of the settings
abbrev pub bounds_of : Study → ℕ → Bounds
bounds_of s g = record { lo = s.settings.lo; hi = s.settings.hi }

-- the problem of isotonic regression that a study states
abbrev pub problem_stated : Study → Problem
problem_stated s = problem_of (groups_of s) (places_of s) (bounds_of s)

abbrev pub total_weight : List Observation → ℕ
total_weight rows = sum_by (λ r. r.weight) rows

-- one text is before another by its bytes
abbrev pub IsBefore : List ℕ → List ℕ → Type 0
IsBefore a b = slice_cmp nat_cmp a b ≡ Less

-- by low name, then by high name
abbrev pub ComesBefore : List ℕ × List ℕ → List ℕ × List ℕ → Type 0
ComesBefore e f = IsBefore e.0 f.0 ⊎ ((e.0 ≡ f.0) × IsBefore e.1 f.1)

-- a row within its limits
pub record IsObservation (r : Observation) : Type 0 where
  pub least_number : 1 ≤ r.number
  pub greatest_number : r.number ≤ most_rows
  pub group : IsName r.group
  pub value : unsigned_abs r.value ≤ MOST_UNITS
  pub weight : 1 ≤ r.weight

-- what each study keeps
pub record IsValid (s : Study) : Type 0 where
  pub settings : InLimits s.settings
  pub each : All IsObservation s.rows
  pub rising : AllPairs (λ a b. a.number < b.number) s.rows
  pub together : total_weight s.rows ≤ MOST_WEIGHT
  pub rows : length s.rows ≤ most_rows
  pub groups : length (names_of s) ≤ most_groups
  pub known : All (λ e. Contains (names_of s) e.0 × Contains (names_of s) e.1) s.pairs
  pub in_order : AllPairs ComesBefore s.pairs
  pub pairs : length s.pairs ≤ most_pairs

-- the number is the least one from 1 on that no row has
pub record IsFreeNumber (rows : List Observation) (number : ℕ) : Type 0 where
  pub from_one : 1 ≤ number
  pub free : All (λ r. r.number ≡ number → ⊥) rows
  pub least : (k : ℕ) → 1 ≤ k → k < number → Contains (map (λ r. r.number) rows) k

-- the study with a row more, among the others by its number
pub record GainsRow (before : Study) (group : List ℕ) (value : ℤ) (weight : ℕ) (after : Study) : Type 0 where
  pub number : ℕ
  pub free : IsFreeNumber before.rows number
  pub lower : List Observation
  pub higher : List Observation
  pub parted : before.rows ≡ lower ++ higher
  pub below : All (λ r. r.number < number) lower
  pub above : All (λ r. number < r.number) higher
  pub gains : after ≡ record before { rows = lower ++ record { number = number; group = group; value = value; weight = weight } ∷ higher }

-- the study with other pairs, which are those of the places, each once
pub record HasPairs (before : Study) (places : List (ℕ × ℕ)) (after : Study) : Type 0 where
  pub others : after ≡ record before { pairs = after.pairs }
  pub in_order : AllPairs ComesBefore after.pairs
  pub only : (e : ℕ × ℕ) → Contains places e ↔ Contains (places_of after) e
  pub known : All (λ e. Contains (names_of after) e.0 × Contains (names_of after) e.1) after.pairs
