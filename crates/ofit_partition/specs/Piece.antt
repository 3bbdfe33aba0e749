-- Pieces of a problem: some of its places, with the pairs between them.
use Rattle.std.specs.Prelude.{◌≡◌, ℕ, ◌<◌, ◌≤◌, ℤ, Bool, true, false, not, ◌&&◌, nat_eq, List, [], length, All, Contains, slice_index, slice_index_or, slice_get, unwrap_or}
use Rattle.std.specs.List.{AllPairs, list_any, filter}
use Rattle.ofit_cut.specs.declared.tie.Tie.{Tie}
use Rattle.ofit_cut.specs.declared.tie.Tie.TheVariants.{Smallest, Largest}
use Rattle.ofit_num.specs.declared.row.Row.{Row}
use Rattle.ofit_num.specs.Sets.{IsSmallest}
use Rattle.ofit_num.specs.Level.{IsLargest}
use Rattle.ofit_num.specs.Groups.{RowLists}
use Rattle.ofit_num.specs.Problem.{Problem, problem_of}
use Rattle.ofit_num.specs.Unbounded.{no_bounds}
use Rattle.ofit_partition.specs.declared.piece.Piece.{Piece}
use Rattle.ofit_partition.specs.declared.piece.Parts.{Parts}

-- the groups in the order of the pairs, without bounds
abbrev pub partition_problem : RowLists → List (ℕ × ℕ) → Problem
partition_problem groups pairs = problem_of groups pairs no_bounds

-- the places of the list
abbrev pub holds : List ℕ → ℕ → Bool
holds places g = list_any (λ p. nat_eq p g) places

-- The places rise; the pairs are those of the problem that go between two of them.
pub record IsPiece (s : Problem) (p : Piece) : Type 0 where
  pub rising : AllPairs (λ x y. x < y) p.places.items
  pub below : All (λ g. g < s.count) p.places.items
  pub few : length p.places.items ≤ s.count
  pub inside : All (λ e. Contains s.pairs e × (holds p.places.items e.0 ≡ true) × (holds p.places.items e.1 ≡ true)) p.pairs.items
  pub all : All (λ e. holds p.places.items e.0 ≡ true → holds p.places.items e.1 ≡ true → Contains p.pairs.items e) s.pairs
  pub few_pairs : length p.pairs.items ≤ length s.pairs

-- each of the places stands in its list at its position
pub record AreNumbered (positions places : List ℕ) : Type 0 where
  pub inside : All (λ g. g < length positions) places
  pub each : (i : ℕ) → i < length places → slice_index positions (slice_index places i) ≡ i

-- the place has a position that the set of positions holds
abbrev pub is_marked : List ℕ → List Bool → ℕ → Bool
is_marked positions set g = slice_index_or set (slice_index positions g) false

-- the position of the place is one of the set's
abbrev pub IsInside : List ℕ → List Bool → ℕ → Type 0
IsInside positions set g = (g < length positions) × (slice_index positions g < length set)

-- the marked places of the piece, and the others, each with the pairs between them
pub record AreParts (mark : ℕ → Bool) (piece : Piece) (parts : Parts) : Type 0 where
  pub chosen : parts.chosen.places.items ≡ filter mark piece.places.items
  pub chosen_pairs : parts.chosen.pairs.items ≡ filter (λ e. mark e.0 && mark e.1) piece.pairs.items
  pub rest : parts.rest.places.items ≡ filter (λ g. not (mark g)) piece.places.items
  pub rest_pairs : parts.rest.pairs.items ≡ filter (λ e. not (mark e.0) && not (mark e.1)) piece.pairs.items

-- those of the piece's places whose positions the set holds
abbrev pub marked : Piece → List ℕ → List Bool → ℕ → Bool
marked piece positions set g = holds piece.places.items g && is_marked positions set g

-- the smallest or the largest upper set with the greatest sum
abbrev pub IsTieIn : Tie → Problem → (ℕ → Bool) → (ℕ → ℤ) → (ℕ → Bool) → Type 0
IsTieIn Smallest = IsSmallest
IsTieIn Largest = IsLargest

-- the rows of a group
abbrev pub rows_of : RowLists → ℕ → List Row
rows_of groups g = unwrap_or (slice_get groups g) []
