-- A problem of isotonic regression: groups at places, their rows, the order between them, and bounds.
use Rattle.std.specs.Prelude.{ℕ, List, [], length, slice_get, unwrap_or, Option, ℤ}
use Rattle.ofit_num.specs.declared.row.Row.{Row}

-- the least and the greatest value that a group may have, each where there is one
pub record Bounds : Type 0 where
  pub lo : Option ℤ
  pub hi : Option ℤ

-- groups with their rows, the pairs of places (low, high) in the study's order, which is by the bytes of the names of low, then high, and the bounds of each place
pub record Problem : Type 0 where
  pub count : ℕ
  pub rows : ℕ → List Row
  pub pairs : List (ℕ × ℕ)
  pub bounds : ℕ → Bounds

-- the problem of a list of each group's rows, with pairs of its places and each place's bounds
abbrev pub problem_of : List (List Row) → List (ℕ × ℕ) → (ℕ → Bounds) → Problem
problem_of groups pairs bounds = record {
  count = length groups;
  rows = λ g. unwrap_or (slice_get groups g) [];
  pairs = pairs;
  bounds = bounds;
}
