-- The way that links go in a tree.
use Rattle.std.specs.Prelude.{ℕ, List}
use Rattle.ofit_order.specs.Connection.{LeadsUp}
use Rattle.ofit_order.specs.Shape.{LeadsDown}
use Rattle.ofit_tree.specs.declared.direction.Direction.{Direction}
use Rattle.ofit_tree.specs.declared.direction.Direction.TheVariants.{RootGreatest, RootLeast}

-- the steps that lead towards the root
abbrev pub Leads : Direction → List (ℕ × ℕ) → ℕ → ℕ → Type 0
Leads RootGreatest pairs = LeadsUp pairs
Leads RootLeast pairs = LeadsDown pairs
