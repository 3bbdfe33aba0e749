-- Flows in a net, after Ford and Fulkerson (1956): an amount for each edge, in the order of the edges.
use Rattle.std.specs.Prelude.{◌≡◌, ◌≢◌, ◌<◌, ◌==◌, ℕ, ℤ, pos, ◌+ℤ◌, ◌-ℤ◌, ◌≤ℤ◌, List, [], ◌∷◌, length, if◌then◌else◌, slice_index_or}
use Rattle.ofit_flow.specs.declared.edge.Edge.{Edge}

-- an edge that carries nothing, which stands past the end of a list of edges
abbrev pub no_edge : Edge
no_edge = record { from = 0; to = 0; cap = pos 0 }

-- the edge with this number
abbrev pub edge_at : List Edge → ℕ → Edge
edge_at edges k = slice_index_or edges k no_edge

-- the amount on the edge with this number
abbrev pub amount_at : List ℤ → ℕ → ℤ
amount_at amounts k = slice_index_or amounts k (pos 0)

-- the sum of what `part` makes of each edge and its amount
abbrev pub total : (Edge → ℤ → ℤ) → List Edge → List ℤ → ℤ
total part [] amounts = pos 0
total part (edge ∷ edges) [] = pos 0
total part (edge ∷ edges) (amount ∷ amounts) = part edge amount +ℤ total part edges amounts

-- what leaves a node along its edges
abbrev pub given_out : ℕ → List Edge → List ℤ → ℤ
given_out node edges amounts = total (λ edge amount. if edge.from == node then amount else pos 0) edges amounts

-- what enters a node along its edges
abbrev pub taken_in : ℕ → List Edge → List ℤ → ℤ
taken_in node edges amounts = total (λ edge amount. if edge.to == node then amount else pos 0) edges amounts

-- what leaves the source less what enters it
abbrev pub value_of : List Edge → ℕ → List ℤ → ℤ
value_of edges source amounts = given_out source edges amounts -ℤ taken_in source edges amounts

-- an amount for each edge, from 0 to its capacity
pub record IsWithin (edges : List Edge) (amounts : List ℤ) : Type 0 where
  pub counted : length amounts ≡ length edges
  pub low : (k : ℕ) → k < length edges → pos 0 ≤ℤ amount_at amounts k
  pub high : (k : ℕ) → k < length edges → amount_at amounts k ≤ℤ (edge_at edges k).cap

-- the amounts are within the capacities, and every node but source and sink takes in what it gives out
pub record IsFlow (edges : List Edge) (source sink : ℕ) (amounts : List ℤ) : Type 0 where
  pub within : IsWithin edges amounts
  pub conserved : (node : ℕ) → node ≢ source → node ≢ sink → taken_in node edges amounts ≡ given_out node edges amounts
