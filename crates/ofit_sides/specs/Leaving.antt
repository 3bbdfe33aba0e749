-- What flows along pairs out of a node.
use Rattle.std.specs.Prelude.{◌≡◌, ◌<◌, ℕ, List, [], ◌∷◌, AllPairs, cond, nat_eq, length, slice_index_or, ℤ, pos, ◌+ℤ◌}

abbrev pub leaving : List (ℕ × ℕ) → List ℤ → ℕ → ℤ
leaving [] amounts node = pos 0
leaving (pair ∷ pairs) [] node = pos 0
leaving (pair ∷ pairs) (amount ∷ amounts) node = leaving pairs amounts node +ℤ cond (nat_eq node pair.0) amount (pos 0)

-- the pairs stand by rising low ends
abbrev pub RiseByLow : List (ℕ × ℕ) → Type 0
RiseByLow pairs = AllPairs (λ e f. e.0 < f.0) pairs

-- what leaves each of so many nodes
pub record AreLeaving (nodes : ℕ) (pairs : List (ℕ × ℕ)) (amounts flows : List ℤ) : Type 0 where
  pub count : length flows ≡ nodes
  pub each : (node : ℕ) → node < nodes → slice_index_or flows node (pos 0) ≡ leaving pairs amounts node
