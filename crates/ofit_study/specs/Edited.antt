-- Edits of a study: the study after an edit, or the first reason why the edit is refused.
use Rattle.std.specs.Prelude.{◌≡◌, ◌≢◌, ◌≤◌, ◌<◌, ◌++◌, ◌⊎◌, ◌↔◌, nat_eq, ℕ, ℤ, List, [], ◌∷◌, length, map, filter, All, AllPairs, Contains, Result, Ok, Err}
use Rattle.ofit_num.specs.declared.limits.TheConstants.{MOST_WEIGHT}
use Rattle.ofit_study.specs.declared.edit.Edit.{Edit}
use Rattle.ofit_study.specs.declared.edit.Edit.TheVariants.{Add, Remove, Value, Weight, Relate, Unrelate}
use Rattle.ofit_study.specs.declared.edit.End.TheVariants.{Low, High}
use Rattle.ofit_study.specs.declared.fault.AddFault.TheVariants as add
use Rattle.ofit_study.specs.declared.fault.EditFault.{EditFault}
use Rattle.ofit_study.specs.declared.fault.EditFault.TheVariants.{TooManyRows, TooHeavy, TooManyGroups, NoRow, GroupInUse, NoGroup, PairPresent, PairAbsent, TooManyPairs}
use Rattle.ofit_study.specs.Adding.{IsTaken, IsRefused}
use Rattle.ofit_study.specs.Study.{Observation, Study, GainsRow, ComesBefore, names_of, rows_named, total_weight, most_pairs}

-- the row of a number, between those of lower and those of higher numbers
pub record HasRow (s : Study) (number : ℕ) : Type 0 where
  pub lower : List Observation
  pub row : Observation
  pub higher : List Observation
  pub parted : s.rows ≡ lower ++ row ∷ higher
  pub is : row.number ≡ number

-- the study with other rows at and about a place
abbrev pub with_rows : Study → List Observation → List Observation → List Observation → Study
with_rows s lower rows higher = record s { rows = lower ++ (rows ++ higher) }

abbrev pub with_value : Observation → ℤ → Observation
with_value r value = record r { value = value }

abbrev pub with_weight : Observation → ℕ → Observation
with_weight r weight = record r { weight = weight }

-- the study with just the pairs that P tells
pub record HasJustPairs (before : Study) (P : List ℕ × List ℕ → Type 0) (after : Study) : Type 0 where
  pub others : after ≡ record before { pairs = after.pairs }
  pub in_order : AllPairs ComesBefore after.pairs
  pub just : (e : List ℕ × List ℕ) → Contains after.pairs e ↔ P e

-- the study after an edit that isn't refused
abbrev pub IsAfter : Study → Edit → Study → Type 0
IsAfter s (Add group value weight) after = GainsRow s group value weight after
IsAfter s (Remove number) after = (at : HasRow s number) × (after ≡ with_rows s at.lower [] at.higher)
IsAfter s (Value number value) after = (at : HasRow s number) × (after ≡ with_rows s at.lower (with_value at.row value ∷ []) at.higher)
IsAfter s (Weight number weight) after = (at : HasRow s number) × (after ≡ with_rows s at.lower (with_weight at.row weight ∷ []) at.higher)
IsAfter s (Relate low high) after = HasJustPairs s (λ e. Contains s.pairs e ⊎ (e ≡ (low, high))) after
IsAfter s (Unrelate low high) after = HasJustPairs s (λ e. Contains s.pairs e × (e ≢ (low, high))) after

-- the group of this name has one row, and a pair names it
pub record IsInUse (s : Study) (name : List ℕ) : Type 0 where
  pub only : length (rows_named s.rows name) ≡ 1
  pub pair : List ℕ × List ℕ
  pub stands : Contains s.pairs pair
  pub names : (pair.0 ≡ name) ⊎ (pair.1 ≡ name)

-- the total weight with another weight of a row
abbrev pub weight_with : {s : Study} {number : ℕ} → HasRow s number → ℕ → ℕ
weight_with at weight = total_weight (at.lower ++ with_weight at.row weight ∷ at.higher)

abbrev pub IsUnknown : Study → List ℕ → Type 0
IsUnknown s name = All (λ known. known ≢ name) (names_of s)

-- nothing refuses the edit
abbrev pub IsAccepted : Study → Edit → Type 0
IsAccepted s (Add group value weight) = IsTaken s group weight
IsAccepted s (Remove number) = (at : HasRow s number) × (IsInUse s at.row.group → ⊥)
IsAccepted s (Value number value) = HasRow s number
IsAccepted s (Weight number weight) = (at : HasRow s number) × (weight_with at weight ≤ MOST_WEIGHT)
IsAccepted s (Relate low high) = Contains (names_of s) low × Contains (names_of s) high × (Contains s.pairs (low, high) → ⊥) × (length s.pairs < most_pairs)
IsAccepted s (Unrelate low high) = Contains s.pairs (low, high)

-- the first of an edit's reasons, where one holds; an edit has no other
abbrev pub IsRefusal : Study → Edit → EditFault → Type 0
IsRefusal s (Add group value weight) TooManyRows = IsRefused s group weight add.TooManyRows
IsRefusal s (Add group value weight) TooHeavy = IsRefused s group weight add.TooHeavy
IsRefusal s (Add group value weight) TooManyGroups = IsRefused s group weight add.TooManyGroups
IsRefusal s (Remove number) NoRow = HasRow s number → ⊥
IsRefusal s (Remove number) GroupInUse = (at : HasRow s number) × IsInUse s at.row.group
IsRefusal s (Value number value) NoRow = HasRow s number → ⊥
IsRefusal s (Weight number weight) NoRow = HasRow s number → ⊥
IsRefusal s (Weight number weight) TooHeavy = (at : HasRow s number) × (MOST_WEIGHT < weight_with at weight)
IsRefusal s (Relate low high) (NoGroup Low) = IsUnknown s low
IsRefusal s (Relate low high) (NoGroup High) = Contains (names_of s) low × IsUnknown s high
IsRefusal s (Relate low high) PairPresent = Contains (names_of s) low × Contains (names_of s) high × Contains s.pairs (low, high)
IsRefusal s (Relate low high) TooManyPairs = Contains (names_of s) low × Contains (names_of s) high × (Contains s.pairs (low, high) → ⊥) × (most_pairs ≤ length s.pairs)
IsRefusal s (Unrelate low high) PairAbsent = Contains s.pairs (low, high) → ⊥
IsRefusal s edit fault = ⊥

-- what an edit of a study gives
abbrev pub Edited : Study → Edit → Result Study EditFault → Type 0
Edited s edit (Ok after) = IsAccepted s edit × IsAfter s edit after
Edited s edit (Err fault) = IsRefusal s edit fault

-- the groups of the rows of this number
abbrev pub groups_numbered : Study → ℕ → List (List ℕ)
groups_numbered s number = map (λ r. r.group) (filter (λ r. nat_eq r.number number) s.rows)

-- the names of the groups that an edit touches: that of the row, or both that it names
abbrev pub touched : Study → Edit → List (List ℕ)
touched s (Add group value weight) = group ∷ []
touched s (Remove number) = groups_numbered s number
touched s (Value number value) = groups_numbered s number
touched s (Weight number weight) = groups_numbered s number
touched s (Relate low high) = low ∷ high ∷ []
touched s (Unrelate low high) = low ∷ high ∷ []
