-- What a maximum flow tells.
use Rattle.std.specs.Prelude.{◌≡◌, ℕ, ℤ, ◌≤ℤ◌, List, length}
use Rattle.ofit_flow.specs.declared.edge.Edge.{Edge}
use Rattle.ofit_flow.specs.Flow.{IsFlow, value_of}
use Rattle.ofit_flow.specs.Cut.{capacity, IsSmallestMinimumCut, IsLargestMinimumCut}
use Rattle.ofit_flow.specs.Network.{Routing, members, others}

-- a flow that none exceeds, with its value as the capacity of the smallest minimum cut and of the largest
pub record IsMaximumFlow (edges : List Edge) (nodes source sink : ℕ) (f : Routing) : Type 0 where
  pub flow : IsFlow edges source sink f.amounts
  pub value : f.value ≡ value_of edges source f.amounts
  pub greatest : (amounts : List ℤ) → IsFlow edges source sink amounts → value_of edges source amounts ≤ℤ f.value
  pub source_capacity : f.value ≡ capacity (members f.source_side) edges
  pub sink_capacity : f.value ≡ capacity (others f.sink_side) edges
  pub smallest : IsSmallestMinimumCut edges source sink (members f.source_side)
  pub largest : IsLargestMinimumCut edges source sink (others f.sink_side)
  pub source_told : length f.source_side ≡ nodes
  pub sink_told : length f.sink_side ≡ nodes
