-- A walk from the source that rises a level with each step, and what a blocking flow keeps true.
use Rattle.std.specs.Prelude.{◌≡◌, ◌≢◌, ◌<◌, ◌≤◌, ◌+◌, ◌⊎◌, ℕ, ℤ, pos, ◌<ℤ◌, ◌≤ℤ◌, Bool, true, false, ◌+ℤ◌, All, List, length, map, slice_index, slice_index_or, Option, Some, None}
use Rattle.ofit_flow.specs.declared.edge.Edge.{Edge}
use Rattle.ofit_flow.specs.declared.step.Step.{Step}
use Rattle.ofit_flow.specs.Flow.{edge_at, amount_at, IsFlow, value_of}
use Rattle.ofit_flow.specs.Residual.{other_end, residual, Touches}
use Rattle.ofit_flow.specs.Levels.{level_at, IsArc, LeadsClose, AreLow}
use Rattle.ofit_flow.specs.Incidence.{IsIncidence}
use Rattle.ofit_flow.specs.Search.{CanSearch}

-- along the edge from the node either nothing more can go, or not to this level
abbrev pub IsSpent : List Edge → List ℤ → List (Option ℕ) → ℕ → ℕ → ℕ → Type 0
IsSpent edges amounts levels node above number =
    pos 0 <ℤ residual (edge_at edges number) (amount_at amounts number) node → level_at levels (other_end (edge_at edges number) node) ≢ Some above

-- the step goes along an edge that can carry so much more, to a node of this level
pub record IsStepUp (edges : List Edge) (amounts : List ℤ) (levels : List (Option ℕ)) (node above : ℕ) (step : Step) : Type 0 where
  pub from : step.from ≡ node
  pub arc : IsArc edges amounts node step.edge step.to
  pub room : step.room ≡ residual (edge_at edges step.edge) (amount_at amounts step.edge) node
  pub up : level_at levels step.to ≡ Some above

-- a step that stands past the end of a path
abbrev pub no_step : Step
no_step = record { edge = 0; from = 0; to = 0; room = pos 0 }

abbrev pub step_at : List Step → ℕ → Step
step_at path i = slice_index_or path i no_step

-- the node after so many steps of a path that ends at `node`
abbrev pub node_on : List Step → ℕ → ℕ → ℕ
node_on path node i = slice_index_or (map (λ step. step.from) path) i node

-- the steps lead from the source to the node, each a level up
pub record IsPath (edges : List Edge) (amounts : List ℤ) (levels : List (Option ℕ)) (path : List Step) (source node : ℕ) : Type 0 where
  pub first : node_on path node 0 ≡ source
  pub steps : (i : ℕ) → i < length path → IsStepUp edges amounts levels (node_on path node i) (i + 1) (step_at path i)
  pub linked : (i : ℕ) → i < length path → (step_at path i).to ≡ node_on path node (i + 1)
  pub heights : (i : ℕ) → i ≤ length path → level_at levels (node_on path node i) ≡ Some i

-- so many of each node's edges are spent at most
pub record AreKept (nodes : ℕ) (row : ℕ → List ℕ) (spent : List ℕ) : Type 0 where
  pub counted : length spent ≡ nodes
  pub within : (node : ℕ) → node < nodes → slice_index spent node ≤ length (row node)

-- what a blocking flow keeps true of the levels at its begin, of those still left, and of the edges passed over
pub record IsPhase (edges : List Edge) (nodes : ℕ) (row : ℕ → List ℕ) (amounts : List ℤ) (first levels : List (Option ℕ)) (spent : List ℕ) (last : ℕ) : Type 0 where
  pub left : (node : ℕ) → (level_at levels node ≡ level_at first node) ⊎ (level_at levels node ≡ None)
  pub passed : (node level i : ℕ) → node < nodes → level_at levels node ≡ Some level → i < slice_index spent node → IsSpent edges amounts levels node (level + 1) (slice_index (row node) i)
  pub dead : (node level : ℕ) → level_at first node ≡ Some level → level_at levels node ≡ None → (number : ℕ) → number < length edges → Touches (edge_at edges number) node → IsSpent edges amounts levels node (level + 1) number
  pub close : (node level : ℕ) → level_at first node ≡ Some level → level + 1 < last → LeadsClose edges amounts first node level

-- what a search for a path needs
pub record CanWalk (edges : List Edge) (amounts : List ℤ) (nodes : ℕ) (row : ℕ → List ℕ) (levels : List (Option ℕ)) (spent : List ℕ) : Type 0 where
  pub net : CanSearch edges amounts nodes
  pub rows : IsIncidence edges nodes row
  pub counted : length levels ≡ nodes
  pub low : AreLow levels nodes
  pub kept : AreKept nodes row spent

-- what a search for a path gives: levels are only taken away, not the sink's, and the source's just where there is no path
pub record Walks (edges : List Edge) (amounts : List ℤ) (nodes : ℕ) (row : ℕ → List ℕ) (levels levels' : List (Option ℕ)) (spent spent' : List ℕ) (path : List Step) (source sink : ℕ) (found : Bool) : Type 0 where
  pub can : CanWalk edges amounts nodes row levels' spent'
  pub sink_kept : level_at levels' sink ≡ level_at levels sink
  pub phase : (first : List (Option ℕ)) (last : ℕ) → IsPhase edges nodes row amounts first levels spent last → IsPhase edges nodes row amounts first levels' spent' last
  pub leads : found ≡ true → IsPath edges amounts levels' path source sink
  pub ended : found ≡ false → level_at levels' source ≡ None

-- the other node is a level lower
pub record LeadsDown (levels : List (Option ℕ)) (node to : ℕ) : Type 0 where
  pub level : ℕ
  pub here : level_at levels node ≡ Some (level + 1)
  pub there : level_at levels to ≡ Some level

-- only arcs that lead a level down can carry more than before
abbrev pub FallsOnly : List Edge → List (Option ℕ) → List ℤ → List ℤ → Type 0
FallsOnly edges levels amounts amounts' =
    (number node : ℕ) → number < length edges → Touches (edge_at edges number) node
    → (residual (edge_at edges number) (amount_at amounts' number) node ≤ℤ residual (edge_at edges number) (amount_at amounts number) node) ⊎ LeadsDown levels node (other_end (edge_at edges number) node)

-- a path whose steps can carry so much more
pub record IsWay (edges : List Edge) (amounts : List ℤ) (path : List Step) (by : ℤ) : Type 0 where
  pub nodes : ℕ
  pub levels : List (Option ℕ)
  pub source : ℕ
  pub sink : ℕ
  pub net : CanSearch edges amounts nodes
  pub way : IsPath edges amounts levels path source sink
  pub wide : All (λ step. by ≤ℤ step.room) path

-- a flow of so much more value, where only arcs that lead a level down can carry more than before
pub record IsAugmented (edges : List Edge) (source sink : ℕ) (levels : List (Option ℕ)) (amounts amounts' : List ℤ) (by : ℤ) : Type 0 where
  pub flow : IsFlow edges source sink amounts'
  pub value : value_of edges source amounts' ≡ value_of edges source amounts +ℤ by
  pub falls : FallsOnly edges levels amounts amounts'
