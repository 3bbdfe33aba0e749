-- For each node, the numbers of the edges that touch it.
use Rattle.std.specs.Prelude.{◌≡◌, ◌≢◌, ◌<◌, ◌≤◌, ◌+◌, ◌==◌, ℕ, List, [], ◌∷◌, ◌++◌, length, Contains, slice_index, slice_range, if◌then◌else◌}
use Rattle.ofit_flow.specs.declared.edge.Edge.{Edge}
use Rattle.ofit_flow.specs.declared.rows.Rows.{Rows}
use Rattle.ofit_flow.specs.Flow.{edge_at}
use Rattle.ofit_flow.specs.Residual.{Touches}

-- how many ends of edges are this node
abbrev pub degree : List Edge → ℕ → ℕ
degree [] node = 0
degree (edge ∷ edges) node = degree edges node + ((if edge.from == node then 1 else 0) + (if edge.to == node then 1 else 0))

-- where each of the rows of so many numbers begins, and last where they end
pub record AreStarts (degrees starts : List ℕ) : Type 0 where
  pub counted : length starts ≡ length degrees + 1
  pub first : slice_index starts 0 ≡ 0
  pub next : (node : ℕ) → node < length degrees → slice_index starts (node + 1) ≡ slice_index starts node + slice_index degrees node

-- the numbers from a node's start up to a place of its own
abbrev pub part_at : List ℕ → List ℕ → List ℕ → ℕ → List ℕ
part_at starts places numbers node = slice_range numbers (slice_index starts node) (slice_index places node)

-- the numbers from a node's start up to the next node's
abbrev pub row_of : List ℕ → List ℕ → ℕ → List ℕ
row_of starts numbers node = slice_range numbers (slice_index starts node) (slice_index starts (node + 1))

-- the numbers listed for a node
abbrev pub row_at : Rows → ℕ → List ℕ
row_at rows node = row_of rows.starts.items rows.numbers.items node

-- there is a row for the node
pub record HasRow (rows : Rows) (node : ℕ) : Type 0 where
  pub counted : node + 1 < length rows.starts.items
  pub rising : slice_index rows.starts.items node ≤ slice_index rows.starts.items (node + 1)
  pub within : slice_index rows.starts.items (node + 1) ≤ length rows.numbers.items

-- there is a row for each of so many nodes
abbrev pub AreRows : Rows → ℕ → Type 0
AreRows rows nodes = (node : ℕ) → node < nodes → HasRow rows node

-- each of the first `count` edges is listed for both its ends, and nothing else is listed
pub record IsListing (edges : List Edge) (nodes count : ℕ) (row : ℕ → List ℕ) : Type 0 where
  pub from_listed : (k : ℕ) → k < count → Contains (row (edge_at edges k).from) k
  pub to_listed : (k : ℕ) → k < count → Contains (row (edge_at edges k).to) k
  pub below : (node k : ℕ) → node < nodes → Contains (row node) k → k < count
  pub touching : (node k : ℕ) → node < nodes → Contains (row node) k → Touches (edge_at edges k) node

-- each edge is listed for both its ends, and nothing else is listed
abbrev pub IsIncidence : List Edge → ℕ → (ℕ → List ℕ) → Type 0
IsIncidence edges nodes row = IsListing edges nodes (length edges) row

-- the new rows have this number added to the node's, and are otherwise the old ones
pub record ListsAlso (nodes : ℕ) (old new : ℕ → List ℕ) (node number : ℕ) : Type 0 where
  pub row : new node ≡ old node ++ number ∷ []
  pub others : (other : ℕ) → other < nodes → other ≢ node → new other ≡ old other
