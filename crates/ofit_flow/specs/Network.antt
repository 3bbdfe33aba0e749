-- A net as callers see it, and what a maximum flow of it tells.
use Rattle.std.specs.Prelude.{◌<◌, ◌≢◌, ◌≤◌, ℕ, ℤ, pos, ◌≤ℤ◌, Bool, false, not, List, All, length, slice_index_or}
use Rattle.ofit_flow.specs.declared.edge.Edge.{Edge}
use Rattle.ofit_flow.specs.declared.edge.TheConstants.{MAX_CAPACITY, MAX_EDGES}

-- the nodes are the numbers below `nodes`
pub record Network : Type 0 where
  pub nodes : ℕ
  pub source : ℕ
  pub sink : ℕ
  pub edges : List Edge

-- what can be an edge of a net of so many nodes
pub record CanAdd (nodes : ℕ) (edge : Edge) : Type 0 where
  pub from_in : edge.from < nodes
  pub to_in : edge.to < nodes
  pub apart : edge.from ≢ edge.to
  pub cap_low : pos 0 ≤ℤ edge.cap
  pub cap_high : edge.cap ≤ℤ MAX_CAPACITY

-- what is true of every net
pub record IsNet (net : Network) : Type 0 where
  pub source_in : net.source < net.nodes
  pub sink_in : net.sink < net.nodes
  pub apart : net.source ≢ net.sink
  pub few : length net.edges ≤ MAX_EDGES
  pub edges_in : All (CanAdd net.nodes) net.edges

-- a flow, by its value and amounts, with the two sets of nodes: what the source reaches in the residual net, and what reaches the sink
pub record Routing : Type 0 where
  pub value : ℤ
  pub amounts : List ℤ
  pub source_side : List Bool
  pub sink_side : List Bool

-- the set of nodes that are true in the list
abbrev pub members : List Bool → ℕ → Bool
members side node = slice_index_or side node false

-- the nodes that are not true in the list
abbrev pub others : List Bool → ℕ → Bool
others side node = not (slice_index_or side node false)
