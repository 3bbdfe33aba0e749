-- The numbers of components.
use Rattle.std.specs.Prelude.{ℕ, ◌<◌}
use Rattle.ofit_order.specs.Relation.{Relation}
use Rattle.ofit_order.specs.Component.{IsComponentCount}

-- there is a component of this number
abbrev pub HasComponent : Relation → ℕ → Type 0
HasComponent order component = (count : ℕ) × IsComponentCount order count × (component < count)
