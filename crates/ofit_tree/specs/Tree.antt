-- Rooted trees of groups, each given by its parents: the place of each group's parent, and none for the root.
use Rattle.std.specs.Prelude.{◌≡◌, ℕ, zero, suc, ◌<◌, List, [], ◌∷◌, length, slice_get, Option, Some, None}
use Rattle.ofit_num.specs.Groups.{RowLists}
use Rattle.ofit_num.specs.Problem.{Problem, problem_of}
use Rattle.ofit_num.specs.Unbounded.{no_bounds}
use Rattle.ofit_tree.specs.declared.direction.Direction.{Direction}
use Rattle.ofit_tree.specs.declared.direction.Direction.TheVariants.{RootGreatest, RootLeast}

-- a child with its parent, the one that is to be low first
abbrev pub pair_of : Direction → ℕ → ℕ → ℕ × ℕ
pair_of RootGreatest child parent = (child, parent)
pair_of RootLeast child parent = (parent, child)

-- the pairs of the places from `child` on, which have these parents
abbrev pub pairs_from : Direction → ℕ → List (Option ℕ) → List (ℕ × ℕ)
pairs_from direction child [] = []
pairs_from direction child (None ∷ parents) = pairs_from direction (suc child) parents
pairs_from direction child (Some parent ∷ parents) = pair_of direction child parent ∷ pairs_from direction (suc child) parents

-- each place that has a parent, with it
abbrev pub tree_pairs : Direction → List (Option ℕ) → List (ℕ × ℕ)
tree_pairs direction parents = pairs_from direction 0 parents

-- the groups in a tree, without bounds
abbrev pub tree_problem : Direction → RowLists → List (Option ℕ) → Problem
tree_problem direction groups parents = problem_of groups (tree_pairs direction parents) no_bounds

-- the second place is the parent of the first
abbrev pub IsParent : List (Option ℕ) → ℕ → ℕ → Type 0
IsParent parents child parent = slice_get parents child ≡ Some (Some parent)

-- a walk of so many steps, each from a place to its parent, leads from the one place to the other
abbrev pub Climbs : List (Option ℕ) → ℕ → ℕ → ℕ → Type 0
Climbs parents zero from to = from ≡ to
Climbs parents (suc n) from to = (parent : ℕ) × IsParent parents from parent × Climbs parents n parent to

-- One place, the root, has no parent; the others have one of the places; and each walk of parents reaches the root.
pub record IsRootedTree (parents : List (Option ℕ)) : Type 0 where
  pub root : ℕ
  pub at_root : slice_get parents root ≡ Some None
  pub only : (g : ℕ) → slice_get parents g ≡ Some None → g ≡ root
  pub places : (g p : ℕ) → IsParent parents g p → p < length parents
  pub reached : (g : ℕ) → g < length parents → (n : ℕ) × Climbs parents n g root
