-- The edges of a net for pairs and weighted nodes (Picard 1976): along each pair without limit, from the source to each node what its weight is above 0, and from it to the sink what its weight is below 0.
use Rattle.std.specs.Prelude.{ℕ, zero, suc, nat_eq, cond, List, [], ◌∷◌, ◌++◌, map, ℤ, pos, negsuc, ◌+ℤ◌}
use Rattle.ofit_flow.specs.declared.edge.Edge.{Edge}
use Rattle.ofit_flow.specs.declared.edge.TheConstants.{MAX_CAPACITY}
use Rattle.ofit_cut.specs.declared.edges.Ends.{Ends}

-- what a weight is above 0
abbrev pub gain : ℤ → ℤ
gain (pos n) = pos n
gain (negsuc n) = pos 0

-- what a weight is below 0
abbrev pub loss : ℤ → ℤ
loss (pos n) = pos 0
loss (negsuc n) = pos (suc n)

-- the edge of a pair; one with equal ends limits nothing and carries nothing
abbrev pub pair_edge : Ends → ℕ × ℕ → Edge
pair_edge ends pair =
    cond (nat_eq pair.0 pair.1) (record { from = ends.source; to = ends.sink; cap = pos 0 }) (record { from = pair.0; to = pair.1; cap = MAX_CAPACITY })

abbrev pub pair_edges : Ends → List (ℕ × ℕ) → List Edge
pair_edges ends pairs = map (pair_edge ends) pairs

-- the two edges of each node below `nodes`
abbrev pub weight_edges : Ends → (ℕ → ℤ) → ℕ → List Edge
weight_edges ends weight zero = []
weight_edges ends weight (suc nodes) =
    weight_edges ends weight nodes ++ record { from = ends.source; to = nodes; cap = gain (weight nodes) } ∷ record { from = nodes; to = ends.sink; cap = loss (weight nodes) } ∷ []

-- the terms below `nodes`, summed
abbrev pub sum_to : (ℕ → ℤ) → ℕ → ℤ
sum_to term zero = pos 0
sum_to term (suc nodes) = sum_to term nodes +ℤ term nodes
