-- What the search for components marks and finds.
use Rattle.std.specs.Prelude.{◌≡◌, ℕ, ◌+◌, ◌<◌, ◌≤◌, ◌↔◌, ◌⊎◌, Bool, true, false, not, List, ◌++◌, length, slice_index, slice_index_or}
use Rattle.std.specs.List.{Contains, All, count_by}
use Rattle.std.specs.List.Sorted.{IsStrictlyIncreasing}
use Rattle.ofit_order.specs.Connection.{IsReached}
use Rattle.ofit_order.specs.Rows.{HasNeighbour}

abbrev pub IsSeen : List Bool → ℕ → Type 0
IsSeen seen p = slice_index_or seen p false ≡ true

-- the places that are not seen
abbrev pub unseen_count : List Bool → ℕ
unseen_count seen = count_by not seen

-- with a place its neighbours are seen
pub record IsClosed (rows : List (List ℕ)) (seen : List Bool) : Type 0 where
  pub steps : (a b : ℕ) → IsSeen seen a → HasNeighbour rows a b → IsSeen seen b

-- the neighbours that were not seen are seen now, and stand at the end of the found ones
pub record Visits (neighbours found found' : List ℕ) (seen seen' : List Bool) : Type 0 where
  pub more : List ℕ
  pub grown : found' ≡ found ++ more
  pub fresh : (p : ℕ) → Contains more p → Contains neighbours p × (IsSeen seen p → ⊥)
  pub marked : (p : ℕ) → IsSeen seen' p ↔ (IsSeen seen p ⊎ Contains more p)
  pub all : All (IsSeen seen') neighbours
  pub as_long : length seen' ≡ length seen
  pub balance : unseen_count seen' + length found' ≡ unseen_count seen + length found

-- just the places that a walk reaches from start are found, and are seen now besides those seen before
pub record FindsReached (rows : List (List ℕ)) (start : ℕ) (found : List ℕ) (seen seen' : List Bool) : Type 0 where
  pub exact : (p : ℕ) → Contains found p ↔ IsReached (HasNeighbour rows) start p
  pub marked : (p : ℕ) → IsSeen seen' p ↔ (IsSeen seen p ⊎ IsReached (HasNeighbour rows) start p)
  pub as_long : length seen' ≡ length seen

-- no place that a walk reaches from p comes before p
pub record IsLeastReached (rows : List (List ℕ)) (p : ℕ) : Type 0 where
  pub inside : p < length rows
  pub least : (q : ℕ) → IsReached (HasNeighbour rows) p q → p ≤ q

-- components has for each place the number of the one of these least places that a walk reaches
pub record IsNumbering (rows : List (List ℕ)) (components : List ℕ) (count : ℕ) : Type 0 where
  pub least : List ℕ
  pub rising : IsStrictlyIncreasing least
  pub exact : (p : ℕ) → Contains least p ↔ IsLeastReached rows p
  pub counted : count ≡ length least
  pub few : count ≤ length rows
  pub as_long : length components ≡ length rows
  pub numbered : (p : ℕ) → p < length rows → slice_index components p < count
  pub reached : (p : ℕ) → p < length rows → IsReached (HasNeighbour rows) (slice_index least (slice_index components p)) p
