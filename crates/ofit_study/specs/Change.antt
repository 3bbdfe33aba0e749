-- A change of one row of a study, that moves no group and no pair.
use Rattle.std.specs.Prelude.{◌≡◌, ◌≢◌, ◌<◌, ℕ, List, [], ◌∷◌, ⊤, length, map, All, Contains, slice_set}
use Rattle.ofit_num.specs.declared.row.Row.{Row}
use Rattle.ofit_study.specs.declared.edit.Edit.{Edit}
use Rattle.ofit_study.specs.declared.edit.Edit.TheVariants.{Add, Remove, Value, Weight, Relate, Unrelate}
use Rattle.ofit_study.specs.declared.entry.Entry.{Entry}
use Rattle.ofit_study.specs.Edited.{HasRow, IsAfter, touched}
use Rattle.ofit_study.specs.Kept.{name_at, observed}
use Rattle.ofit_study.specs.Study.{Observation, Study, IsFreeNumber, IsValid, names_of, rows_named, total_weight}

-- rows with the places of their groups: one that stands at an index, or all
pub data Entries : Type 0 where
  At : ℕ → Entry → Entries
  Whole : List Entry → Entries

-- a change: the place of the row's group, the rows and that group's rows as the change has them, and the total weight
pub record Change : Type 0 where
  pub place : ℕ
  pub entries : Entries
  pub rows : List Row
  pub weight : ℕ

-- rows with those of a change in their place
abbrev pub rows_with : List (List ℕ) → List Observation → Entries → List Observation
rows_with names rows (At index entry) = slice_set rows index (observed names entry)
rows_with names rows (Whole entries) = map (observed names) entries

-- the study with the rows of a change
abbrev pub changed : Study → Change → Study
changed s c = record s { rows = rows_with (names_of s) s.rows c.entries }

-- the rows are of groups that there are, and one that stands at an index has a row to replace
abbrev pub AreOf : ℕ → ℕ → Entries → Type 0
AreOf rows groups (At index entry) = (index < rows) × (entry.place < groups)
AreOf rows groups (Whole entries) = All (λ e. e.place < groups) entries

-- the change is one of this study: each group keeps its name and its place, and at most one gets other rows
pub record IsChangeOf (s : Study) (c : Change) : Type 0 where
  pub of : AreOf (length s.rows) (length (names_of s)) c.entries
  pub place : c.place < length (names_of s)
  pub valid : IsValid (changed s c)
  pub names : names_of (changed s c) ≡ names_of s
  pub own : c.rows ≡ rows_named (changed s c).rows (name_at (names_of s) c.place)
  pub others : (name : List ℕ) → name ≢ name_at (names_of s) c.place → rows_named (changed s c).rows name ≡ rows_named s.rows name
  pub weight : c.weight ≡ total_weight (changed s c).rows

-- the change does what the edit says, in the one group that the edit touches
pub record IsChangeFor (s : Study) (edit : Edit) (c : Change) : Type 0 where
  pub of : IsChangeOf s c
  pub after : IsAfter s edit (changed s c)
  pub touches : touched s edit ≡ name_at (names_of s) c.place ∷ []

-- a row of the group has a number below this one
pub record HasBefore (s : Study) (group : List ℕ) (number : ℕ) : Type 0 where
  pub row : Observation
  pub stands : Contains s.rows row
  pub of : row.group ≡ group
  pub before : row.number < number

-- the edit gives a row another value or weight, or takes away or adds one that isn't the first of its group
abbrev pub KeepsFirstRows : Study → Edit → Type 0
KeepsFirstRows s (Add group value weight) = (number : ℕ) × IsFreeNumber s.rows number × HasBefore s group number
KeepsFirstRows s (Remove number) = (at : HasRow s number) × HasBefore s at.row.group number
KeepsFirstRows s (Value number value) = ⊤
KeepsFirstRows s (Weight number weight) = ⊤
KeepsFirstRows s (Relate low high) = ⊥
KeepsFirstRows s (Unrelate low high) = ⊥
