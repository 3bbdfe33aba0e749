-- Sets of nodes that pairs (low, high) limit, and the sums of their nodes' weights.
use Rattle.std.specs.Prelude.{◌≡◌, ◌<◌, ℕ, zero, suc, Bool, true, cond, List, All, length, slice_index_or, ℤ, pos, ◌+ℤ◌, unsigned_abs, sum_by}

-- both ends of each pair are below `nodes`
abbrev pub AreWithin : List (ℕ × ℕ) → ℕ → Type 0
AreWithin pairs nodes = All (λ pair. (pair.0 < nodes) × (pair.1 < nodes)) pairs

-- with the low end of a pair, the set holds the high end
abbrev pub IsUpper : List (ℕ × ℕ) → (ℕ → Bool) → Type 0
IsUpper pairs set = All (λ pair. set pair.0 ≡ true → set pair.1 ≡ true) pairs

-- with the high end of a pair, the set holds the low end
abbrev pub IsLower : List (ℕ × ℕ) → (ℕ → Bool) → Type 0
IsLower pairs set = All (λ pair. set pair.1 ≡ true → set pair.0 ≡ true) pairs

-- the pair with its ends exchanged
abbrev pub turned : ℕ × ℕ → ℕ × ℕ
turned pair = (pair.1, pair.0)

-- the sum of the weights of the nodes below `nodes` that the set holds
abbrev pub set_sum : (ℕ → Bool) → (ℕ → ℤ) → ℕ → ℤ
set_sum set weight zero = pos 0
set_sum set weight (suc nodes) = set_sum set weight nodes +ℤ cond (set nodes) (weight nodes) (pos 0)

-- the weight of a node by the list of all nodes' weights
abbrev pub weight_at : List ℤ → ℕ → ℤ
weight_at weights node = slice_index_or weights node (pos 0)

-- the set's sum of these weights
abbrev pub sum_of : List ℤ → (ℕ → Bool) → ℤ
sum_of weights set = set_sum set (weight_at weights) (length weights)

-- the weights' absolute values, summed
abbrev pub total_size : List ℤ → ℕ
total_size weights = sum_by unsigned_abs weights
