-- The edges by which the nodes' balances leave a first choice of them, within their spans.
use Rattle.std.specs.Prelude.{◌≡◌, ◌<◌, ◌≤◌, ℕ, zero, suc, List, [], ◌∷◌, ◌++◌, length, Option, Some, None, ℤ, pos, ◌-ℤ◌, ◌≤ℤ◌, unsigned_abs}
use Rattle.ofit_flow.specs.declared.edge.Edge.{Edge}
use Rattle.ofit_flow.specs.declared.edge.TheConstants.{MAX_CAPACITY}
use Rattle.ofit_cut.specs.declared.span.Span.{Span}
use Rattle.ofit_cut.specs.Span.{span_at, span_size, IsInSpan}
use Rattle.ofit_cut.specs.Sets.{weight_at}
use Rattle.ofit_cut.specs.declared.edges.Ends.{Ends}
use Rattle.ofit_cut.specs.Edges.{pair_edges, weight_edges, gain, loss, sum_to}

-- how far a balance can rise to the greatest end
abbrev pub rise : Option ℤ → ℤ → ℤ
rise None balance = MAX_CAPACITY
rise (Some end) balance = end -ℤ balance

-- how far a balance can fall to the least end
abbrev pub fall : Option ℤ → ℤ → ℤ
fall None balance = MAX_CAPACITY
fall (Some end) balance = balance -ℤ end

-- a balance in the span, no further from 0 and from its ends than the span's size
pub record IsBase (span : Span) (balance : ℤ) : Type 0 where
  pub inside : IsInSpan span balance
  pub small : unsigned_abs balance ≤ span_size span
  pub rises : (end : ℤ) → span.greatest ≡ Some end → (end -ℤ balance) ≤ℤ pos (span_size span)
  pub falls : (end : ℤ) → span.least ≡ Some end → (balance -ℤ end) ≤ℤ pos (span_size span)

-- such a balance for each node
pub record AreBases (spans : List Span) (bases : List ℤ) : Type 0 where
  pub counted : length bases ≡ length spans
  pub each : (node : ℕ) → node < length spans → IsBase (span_at spans node) (weight_at bases node)

-- the two edges of each node below `nodes` from and to the hub, where the changes of all balances come together
abbrev pub slack_edges : ℕ → List Span → List ℤ → ℕ → List Edge
slack_edges hub spans bases zero = []
slack_edges hub spans bases (suc nodes) =
    slack_edges hub spans bases nodes ++ record { from = hub; to = nodes; cap = rise (span_at spans nodes).greatest (weight_at bases nodes) } ∷ record { from = nodes; to = hub; cap = fall (span_at spans nodes).least (weight_at bases nodes) } ∷ []

-- what the chosen balances above 0 sum to, and those below 0
abbrev pub supply : List ℤ → ℕ → ℤ
supply bases nodes = sum_to (λ node. gain (weight_at bases node)) nodes

abbrev pub demand : List ℤ → ℕ → ℤ
demand bases nodes = sum_to (λ node. loss (weight_at bases node)) nodes

-- the hub gives back what the nodes are given, and takes what they give
abbrev pub hub_edges : Ends → ℕ → List ℤ → ℕ → List Edge
hub_edges ends hub bases nodes =
    record { from = ends.source; to = hub; cap = demand bases nodes } ∷ record { from = hub; to = ends.sink; cap = supply bases nodes } ∷ []

-- the net of a balance: of all nodes the chosen balances, the slack, and the hub
abbrev pub balance_edges : Ends → ℕ → List (ℕ × ℕ) → List Span → List ℤ → List Edge
balance_edges ends hub pairs spans bases =
    pair_edges ends pairs ++ (weight_edges ends (weight_at bases) (length spans) ++ (slack_edges hub spans bases (length spans) ++ hub_edges ends hub bases (length spans)))
