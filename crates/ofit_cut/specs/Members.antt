-- Sets of nodes as rising lists.
use Rattle.std.specs.Prelude.{◌<◌, ℕ, Bool, true, false, not, ◌||◌, nat_eq, List, [], ◌∷◌, All}
use Rattle.std.specs.List.Sorted.{IsStrictlyIncreasing}

-- the set of the listed nodes
abbrev pub has_node : List ℕ → ℕ → Bool
has_node [] node = false
has_node (first ∷ nodes) node = nat_eq node first || has_node nodes node

-- nodes below `count`, in rising order
pub record AreNodes (count : ℕ) (nodes : List ℕ) : Type 0 where
  pub rising : IsStrictlyIncreasing nodes
  pub within : All (λ node. node < count) nodes

-- whether the node is in the set, or whether it is outside
abbrev pub is_on_side : (ℕ → Bool) → Bool → ℕ → Bool
is_on_side set true node = set node
is_on_side set false node = not (set node)
