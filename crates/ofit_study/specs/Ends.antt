-- The pairs that have a place at an end.
use Rattle.std.specs.Prelude.{◌≡◌, ℕ, Bool, ◌||◌, nat_eq, List, [], filter, length, map, slice_index_or, Vec}
use Rattle.std.specs.List.{range_with_len}

abbrev pub PairList : Type 0
PairList = List (ℕ × ℕ)

abbrev pub has_end : ℕ → ℕ × ℕ → Bool
has_end g e = nat_eq e.0 g || nat_eq e.1 g

-- of the first k pairs, the indexes of those with this end
abbrev pub indexes_upto : List (ℕ × ℕ) → ℕ → ℕ → List ℕ
indexes_upto pairs k g = filter (λ i. has_end g (slice_index_or pairs i (0, 0))) (range_with_len 0 k)

-- the indexes of the pairs with this end, in rising order
abbrev pub indexes_at : List (ℕ × ℕ) → ℕ → List ℕ
indexes_at pairs g = indexes_upto pairs (length pairs) g

abbrev pub lists_of : {Z : Type 0} → List (Vec ℕ Z) → List (List ℕ)
lists_of lists = map (λ list. list.items) lists

-- each place below the length has the indexes of its pairs, and no pair has a later place
pub record AreAtEnds (pairs : List (ℕ × ℕ)) (lists : List (List ℕ)) : Type 0 where
  pub each : (g : ℕ) → slice_index_or lists g [] ≡ indexes_at pairs g
