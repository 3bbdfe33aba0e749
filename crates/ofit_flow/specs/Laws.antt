-- The two laws of flows and cuts.
use Rattle.std.specs.Prelude.{◌≡◌, ◌≤ℤ◌, ℕ, ℤ, Bool, List}
use Rattle.ofit_flow.specs.declared.edge.Edge.{Edge}
use Rattle.ofit_flow.specs.Flow.{IsFlow, value_of}
use Rattle.ofit_flow.specs.Cut.{IsCut, IsMinimumCut, capacity}

-- no flow is worth more than the capacity of a cut
abbrev pub WeakDuality : Type 0
WeakDuality =
    (edges : List Edge) (source sink : ℕ) (amounts : List ℤ) (set : ℕ → Bool) → IsFlow edges source sink amounts → IsCut source sink set → value_of edges source amounts ≤ℤ capacity set edges

-- where a flow's value is the capacity of a cut, no flow is worth more and no cut has less capacity
abbrev pub EqualIsOptimal : Type 0
EqualIsOptimal =
    (edges : List Edge) (source sink : ℕ) (amounts : List ℤ) (set : ℕ → Bool) → IsFlow edges source sink amounts → IsCut source sink set → value_of edges source amounts ≡ capacity set edges
    → IsMinimumCut edges source sink set × ((others : List ℤ) → IsFlow edges source sink others → value_of edges source others ≤ℤ value_of edges source amounts)
