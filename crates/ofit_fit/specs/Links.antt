-- For each member of a component the position of the member that a pair leads to.
use Rattle.std.specs.Prelude.{◌≡◌, ℕ, ◌+◌, ◌<◌, ◌≤◌, ◌^◌, ◌⊎◌, ◌↔◌, List, [], ◌∷◌, length, slice_index, slice_index_or, Option, Some, None, MatchOption, IfSome}
use Rattle.std.specs.List.{Contains}
use Rattle.std.specs.List.Sorted.{IsStrictlyIncreasing}
use Rattle.ofit_order.specs.Relation.{AreInOrder}
use Rattle.ofit_order.specs.Connection.{LeadsUp}

-- members in rising order, with each place that one of the pairs joins with one of them
pub record AreWholeMembers (pairs : List (ℕ × ℕ)) (members : List ℕ) : Type 0 where
  pub in_order : AreInOrder pairs
  pub rising : IsStrictlyIncreasing members
  pub few : length members < 2 ^ 32
  pub closed : (a b : ℕ) → LeadsUp pairs a b → Contains members a ↔ Contains members b

-- a step from the place leads to the member at the link's position, or none leads on
abbrev pub IsLink : (ℕ → ℕ → Type 0) → List ℕ → ℕ → Option ℕ → Type 0
IsLink Step members place link = MatchOption link ((b : ℕ) → Step place b → ⊥) (λ j. (j < length members) × Step place (slice_index members j))

abbrev pub link_at : List (Option ℕ) → ℕ → Option ℕ
link_at links i = slice_index_or links i None

-- the link is below n, where there is one
abbrev pub IsLinkWithin : ℕ → Option ℕ → Type 0
IsLinkWithin n link = IfSome link (λ j. j < n)

-- one link for each member
pub record AreLinks (Step : ℕ → ℕ → Type 0) (members : List ℕ) (links : List (Option ℕ)) : Type 0 where
  pub count : length links ≡ length members
  pub each : (i : ℕ) → i < length members → IsLink Step members (slice_index members i) (link_at links i)

-- one of the pairs leads up to the place
abbrev pub HasPairTo : List (ℕ × ℕ) → ℕ → Type 0
HasPairTo pairs place = (a : ℕ) × Contains pairs (a, place)

-- so many pairs from some index on are those whose low place this is
pub record IsRun (pairs : List (ℕ × ℕ)) (place count : ℕ) : Type 0 where
  pub start : ℕ
  pub inside : start + count ≤ length pairs
  pub before : (k : ℕ) (d : ℕ × ℕ) → k < start + count → (slice_index_or pairs k d).0 ≤ place
  pub after : (k : ℕ) (d : ℕ × ℕ) → start ≤ k → k < length pairs → place ≤ (slice_index_or pairs k d).0

-- the pairs that lead up from the member at this position are added, each place by its position
pub record AreAdded (members : List ℕ) (above : List (ℕ × ℕ)) (position : ℕ) (before after : List (ℕ × ℕ)) : Type 0 where
  pub count : length after ≡ length before + length above
  pub old : (e : ℕ × ℕ) → Contains before e → Contains after e
  pub added : (j : ℕ) → j < length members → HasPairTo above (slice_index members j) → Contains after (position, j)
  pub only : (i j : ℕ) → Contains after (i, j) → Contains before (i, j) ⊎ ((i ≡ position) × (j < length members) × HasPairTo above (slice_index members j))

-- the pairs between members, each place by its position
pub record ArePairsBetween (pairs : List (ℕ × ℕ)) (members : List ℕ) (found : List (ℕ × ℕ)) : Type 0 where
  pub kept : (i j : ℕ) → Contains found (i, j) → (i < length members) × (j < length members) × Contains pairs (slice_index members i, slice_index members j)
  pub all : (i j : ℕ) → i < length members → j < length members → Contains pairs (slice_index members i, slice_index members j) → Contains found (i, j)
  pub few : length found ≤ length pairs

-- the members that the pairs lead up to are linked to the position now, and the others as before
pub record AreLinkedBack (members : List ℕ) (above : List (ℕ × ℕ)) (position : ℕ) (before after : List (Option ℕ)) : Type 0 where
  pub count : length after ≡ length before
  pub each : (j : ℕ) → j < length members → (HasPairTo above (slice_index members j) × (link_at after j ≡ Some position)) ⊎ ((HasPairTo above (slice_index members j) → ⊥) × (link_at after j ≡ link_at before j))

-- the path starts where `next` says, each link leads to its next position, and the last position has none
abbrev pub IsPathFrom : List (Option ℕ) → Option ℕ → List ℕ → Type 0
IsPathFrom links next [] = next ≡ None
IsPathFrom links next (p ∷ path) = (next ≡ Some p) × IsPathFrom links (link_at links p) path
