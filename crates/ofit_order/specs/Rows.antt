-- For each place a row of places.
use Rattle.std.specs.Prelude.{◌≡◌, ℕ, ◌<◌, ◌↔◌, List, [], length, map, slice_index, slice_index_or}
use Rattle.std.specs.List.{Contains}
use Rattle.std.specs.List.Sorted.{IsStrictlyIncreasing}
use Rattle.std.specs.Prelude.{Vec}
use Rattle.ofit_order.specs.Connection.{Joins}

abbrev pub rows_of : {Z : Type 0} → List (Vec ℕ Z) → List (List ℕ)
rows_of rows = map (λ row. row.items) rows

abbrev pub row : List (List ℕ) → ℕ → List ℕ
row rows a = slice_index_or rows a []

-- the row of a has b
abbrev pub HasNeighbour : List (List ℕ) → ℕ → ℕ → Type 0
HasNeighbour rows a b = Contains (row rows a) b

-- each row has the places that a pair joins with its place
pub record AreNeighbours (pairs : List (ℕ × ℕ)) (rows : List (List ℕ)) : Type 0 where
  pub exact : (a b : ℕ) → HasNeighbour rows a b ↔ Joins pairs a b

-- neighbours have rows, and are each other's neighbours
pub record AreMutual (rows : List (List ℕ)) : Type 0 where
  pub inside : (a b : ℕ) → HasNeighbour rows a b → b < length rows
  pub back : (a b : ℕ) → HasNeighbour rows a b → HasNeighbour rows b a

-- each row has the places below `upto` that have its number, in rising order
pub record ArePartsBelow (upto : ℕ) (numbers : List ℕ) (rows : List (List ℕ)) : Type 0 where
  pub rising : (k : ℕ) → IsStrictlyIncreasing (row rows k)
  pub exact : (k p : ℕ) → HasNeighbour rows k p ↔ ((p < upto) × (slice_index numbers p ≡ k))
