-- A breadth-first search under way: the levels so far, and the nodes with a level in the order in which they were reached.
use Rattle.std.specs.Prelude.{◌≡◌, ◌<◌, ◌≤◌, ◌+◌, ◌^◌, ◌⊎◌, ℕ, ℤ, pos, ◌<ℤ◌, is_none, List, length, slice_index, Option, Some, unwrap_or, count_by, All}
use Rattle.ofit_flow.specs.declared.edge.Edge.{Edge}
use Rattle.ofit_flow.specs.Flow.{edge_at, amount_at, IsWithin}
use Rattle.ofit_flow.specs.Network.{CanAdd}
use Rattle.ofit_flow.specs.Residual.{other_end, residual, Touches}
use Rattle.ofit_flow.specs.Levels.{level_at, IsLevelled, IsLevelling}

-- edges among so many nodes, with an amount within the capacity for each
pub record CanSearch (edges : List Edge) (amounts : List ℤ) (nodes : ℕ) : Type 0 where
  pub few : nodes < 2 ^ 32
  pub edges_in : All (CanAdd nodes) edges
  pub within : IsWithin edges amounts

-- the node's level, 0 where it has none
abbrev pub height : List (Option ℕ) → ℕ → ℕ
height levels node = unwrap_or (level_at levels node) 0

-- no level is above this number
abbrev pub AreAtMost : List (Option ℕ) → ℕ → Type 0
AreAtMost levels most = (node : ℕ) → height levels node ≤ most

-- each node with a level has its place in the queue, where levels rise
pub record IsSearch (edges : List Edge) (amounts : List ℤ) (start : ℕ) (levels : List (Option ℕ)) (queue : List ℕ) : Type 0 where
  pub placed : count_by is_none levels + length queue ≡ length levels
  pub levelling : IsLevelling edges amounts start levels
  pub low : (node : ℕ) → height levels node < length queue
  pub queued : (j : ℕ) → j < length queue → IsLevelled levels (slice_index queue j)
  pub rising : (i j : ℕ) → i ≤ j → j < length queue → height levels (slice_index queue i) ≤ height levels (slice_index queue j)

-- the node stands in the queue at the place `low` or after it
pub record IsQueuedFrom (queue : List ℕ) (low node : ℕ) : Type 0 where
  pub place : ℕ
  pub from_low : low ≤ place
  pub within : place < length queue
  pub here : slice_index queue place ≡ node

-- levels are kept, the queue grows at its end, and every new level's node is among the new places
pub record Extends (levels : List (Option ℕ)) (queue : List ℕ) (levels' : List (Option ℕ)) (queue' : List ℕ) : Type 0 where
  pub counted : length levels' ≡ length levels
  pub kept : (node level : ℕ) → level_at levels node ≡ Some level → level_at levels' node ≡ Some level
  pub longer : length queue ≤ length queue'
  pub same : (j : ℕ) → j < length queue → slice_index queue' j ≡ slice_index queue j
  pub fresh : (node : ℕ) → IsLevelled levels' node → IsLevelled levels node ⊎ IsQueuedFrom queue' (length queue) node

-- where the edge can carry more from this node, its other end has a level
abbrev pub IsLedOn : Edge → ℤ → ℕ → List (Option ℕ) → Type 0
IsLedOn edge amount node levels = pos 0 <ℤ residual edge amount node → IsLevelled levels (other_end edge node)

-- every edge of the node has been followed
abbrev pub IsVisited : List Edge → List ℤ → List (Option ℕ) → ℕ → Type 0
IsVisited edges amounts levels node =
    (k : ℕ) → k < length edges → Touches (edge_at edges k) node → IsLedOn (edge_at edges k) (amount_at amounts k) node levels
