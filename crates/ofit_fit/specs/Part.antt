-- The part of a problem that some of its places make up, as the members of a component do.
use Rattle.std.specs.Prelude.{◌==◌, ℕ, List, length, map, slice_index}
use Rattle.std.specs.List.{position_or_len}
use Rattle.ofit_num.specs.Problem.{Problem}
use Rattle.ofit_num.specs.Fraction.{Fraction}
pub use Rattle.ofit_num.specs.Tight.{value_at}
use Rattle.ofit_order.specs.Form.{pairs_among}

-- where the place stands among the members
abbrev pub position_among : List ℕ → ℕ → ℕ
position_among members g = position_or_len (λ m. m == g) members

-- the pairs among the members, each place by its position
abbrev pub pairs_by_position : List (ℕ × ℕ) → List ℕ → List (ℕ × ℕ)
pairs_by_position pairs members = map (λ e. (position_among members e.0, position_among members e.1)) (pairs_among pairs members)

-- the members with their rows, pairs and bounds, in the members' order
abbrev pub part_of : Problem → List ℕ → Problem
part_of s members = record {
  count = length members;
  rows = λ i. s.rows (slice_index members i);
  pairs = pairs_by_position s.pairs members;
  bounds = λ i. s.bounds (slice_index members i);
}

-- the values of the members, in the members' order
abbrev pub values_at : List Fraction → List ℕ → List Fraction
values_at values members = map (value_at values) members
