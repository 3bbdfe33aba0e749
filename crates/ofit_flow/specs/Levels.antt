-- Levels after Dinic (1970): how many arcs of the residual net lead to a node, at least.
use Rattle.std.specs.Prelude.{◌≡◌, ◌≢◌, ◌<◌, ◌≤◌, ◌+◌, ℕ, ℤ, pos, ◌<ℤ◌, Bool, List, length, slice_index_or, Option, Some, None, IsSome, is_some}
use Rattle.ofit_flow.specs.declared.edge.Edge.{Edge}
use Rattle.ofit_flow.specs.Flow.{edge_at, amount_at}
use Rattle.ofit_flow.specs.Residual.{other_end, residual, Touches, IsClosed}

-- the node's level
abbrev pub level_at : List (Option ℕ) → ℕ → Option ℕ
level_at levels node = slice_index_or levels node None

-- the node has a level
abbrev pub IsLevelled : List (Option ℕ) → ℕ → Type 0
IsLevelled levels node = IsSome (level_at levels node)

-- the set of the nodes with a level
abbrev pub has_level : List (Option ℕ) → ℕ → Bool
has_level levels node = is_some (level_at levels node)

-- the edge leads from the node to another one, and can carry more that way
pub record IsArc (edges : List Edge) (amounts : List ℤ) (node number to : ℕ) : Type 0 where
  pub numbered : number < length edges
  pub leaves : Touches (edge_at edges number) node
  pub arrives : other_end (edge_at edges number) node ≡ to
  pub room : pos 0 <ℤ residual (edge_at edges number) (amount_at amounts number) node

-- an arc leads to the node from one that is a level lower
pub record IsReached (edges : List Edge) (amounts : List ℤ) (levels : List (Option ℕ)) (node level : ℕ) : Type 0 where
  pub from : ℕ
  pub number : ℕ
  pub lower : ℕ
  pub below : level_at levels from ≡ Some lower
  pub arc : IsArc edges amounts from number node
  pub above : level ≡ lower + 1

-- the start has the level 0, and every other level comes by an arc from the level below
pub record IsLevelling (edges : List Edge) (amounts : List ℤ) (start : ℕ) (levels : List (Option ℕ)) : Type 0 where
  pub started : level_at levels start ≡ Some 0
  pub reached : (node level : ℕ) → level_at levels node ≡ Some level → node ≢ start → IsReached edges amounts levels node level

-- the node has a level, and at most this one
pub record HasLevelUpTo (levels : List (Option ℕ)) (node most : ℕ) : Type 0 where
  pub level : ℕ
  pub found : level_at levels node ≡ Some level
  pub at_most : level ≤ most

-- each arc from the node leads to one with a level, at most one level up
abbrev pub LeadsClose : List Edge → List ℤ → List (Option ℕ) → ℕ → ℕ → Type 0
LeadsClose edges amounts levels node level = (number to : ℕ) → IsArc edges amounts node number to → HasLevelUpTo levels to (level + 1)

-- no arc from a level that is not just below the goal's leads further than one level up
abbrev pub IsSteady : List Edge → List ℤ → List (Option ℕ) → ℕ → Type 0
IsSteady edges amounts levels goal =
    (node level last : ℕ) → level_at levels node ≡ Some level → level_at levels goal ≡ Some last → level + 1 < last → LeadsClose edges amounts levels node level

-- every level is below this number
abbrev pub AreLow : List (Option ℕ) → ℕ → Type 0
AreLow levels most = (node level : ℕ) → level_at levels node ≡ Some level → level < most

-- any levels that reach the sink give it a higher one than this
abbrev pub IsFurther : List Edge → List ℤ → ℕ → ℕ → ℕ → Type 0
IsFurther edges amounts source sink last = (levels : List (Option ℕ)) (far : ℕ) → IsLevelling edges amounts source levels → level_at levels sink ≡ Some far → last < far

-- what a search in layers from the start towards the goal gives
pub record IsSearched (edges : List Edge) (amounts : List ℤ) (start goal : ℕ) (levels : List (Option ℕ)) : Type 0 where
  pub levelling : IsLevelling edges amounts start levels
  pub low : AreLow levels (length levels)
  pub steady : IsSteady edges amounts levels goal
  pub closed : level_at levels goal ≡ None → IsClosed edges amounts (has_level levels)
