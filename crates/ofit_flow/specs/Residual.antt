-- The residual net of some amounts: an edge can carry more forwards up to its capacity, and backwards what it carries.
use Rattle.std.specs.Prelude.{◌≡◌, ◌<◌, ◌==◌, ℕ, ℤ, pos, ◌+ℤ◌, ◌-ℤ◌, ◌<ℤ◌, Bool, true, List, [], ◌∷◌, length, if◌then◌else◌, ◌⊎◌}
use Rattle.ofit_flow.specs.declared.edge.Edge.{Edge}
use Rattle.ofit_flow.specs.Flow.{edge_at, amount_at}

-- the end of the edge that is not this node
abbrev pub other_end : Edge → ℕ → ℕ
other_end edge node = if edge.from == node then edge.to else edge.from

-- how much more the edge can carry from this end to the other
abbrev pub residual : Edge → ℤ → ℕ → ℤ
residual edge amount node = if edge.from == node then edge.cap -ℤ amount else amount

-- the node is an end of the edge
abbrev pub Touches : Edge → ℕ → Type 0
Touches edge node = (edge.from ≡ node) ⊎ (edge.to ≡ node)

-- from the set, nothing more can go along this edge to a node outside
pub record IsClosedAt (set : ℕ → Bool) (edge : Edge) (amount : ℤ) : Type 0 where
  pub forwards : set edge.from ≡ true → amount <ℤ edge.cap → set edge.to ≡ true
  pub backwards : set edge.to ≡ true → pos 0 <ℤ amount → set edge.from ≡ true

-- no arc of the residual net leaves the set
abbrev pub IsClosed : List Edge → List ℤ → (ℕ → Bool) → Type 0
IsClosed edges amounts set = (k : ℕ) → k < length edges → IsClosedAt set (edge_at edges k) (amount_at amounts k)

-- what is left of each edge's capacity
abbrev pub left_over : List Edge → List ℤ → List ℤ
left_over [] amounts = []
left_over (edge ∷ edges) [] = []
left_over (edge ∷ edges) (amount ∷ amounts) = (edge.cap -ℤ amount) ∷ left_over edges amounts

-- the amount on the edge after `by` more has gone from this end to the other
abbrev pub pushed : Edge → ℤ → ℕ → ℤ → ℤ
pushed edge amount node by = if edge.from == node then amount +ℤ by else amount -ℤ by
