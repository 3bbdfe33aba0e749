-- Cuts of a net: sets of nodes with the source and without the sink.
use Rattle.std.specs.Prelude.{◌≡◌, ℕ, ℤ, pos, ◌+ℤ◌, ◌≤ℤ◌, Bool, true, false, not, ◌&&◌, List, [], ◌∷◌, if◌then◌else◌}
use Rattle.ofit_flow.specs.declared.edge.Edge.{Edge}

-- the set has the source and lacks the sink
pub record IsCut (source sink : ℕ) (set : ℕ → Bool) : Type 0 where
  pub has_source : set source ≡ true
  pub lacks_sink : set sink ≡ false

-- the capacities of the edges that leave the set, summed
abbrev pub capacity : (ℕ → Bool) → List Edge → ℤ
capacity set [] = pos 0
capacity set (edge ∷ edges) = (if set edge.from && not (set edge.to) then edge.cap else pos 0) +ℤ capacity set edges

-- no cut has less capacity
pub record IsMinimumCut (edges : List Edge) (source sink : ℕ) (set : ℕ → Bool) : Type 0 where
  pub cut : IsCut source sink set
  pub least : (other : ℕ → Bool) → IsCut source sink other → capacity set edges ≤ℤ capacity other edges

-- the minimum cut that is inside every minimum cut
pub record IsSmallestMinimumCut (edges : List Edge) (source sink : ℕ) (set : ℕ → Bool) : Type 0 where
  pub minimum : IsMinimumCut edges source sink set
  pub inside : (other : ℕ → Bool) → IsMinimumCut edges source sink other → (node : ℕ) → set node ≡ true → other node ≡ true

-- the minimum cut that every minimum cut is inside
pub record IsLargestMinimumCut (edges : List Edge) (source sink : ℕ) (set : ℕ → Bool) : Type 0 where
  pub minimum : IsMinimumCut edges source sink set
  pub around : (other : ℕ → Bool) → IsMinimumCut edges source sink other → (node : ℕ) → other node ≡ true → set node ≡ true
