-- Orders that say the same.
use Rattle.std.specs.Prelude.{◌≡◌, ◌↔◌, ℕ}
use Rattle.std.specs.List.{Contains}
use Rattle.ofit_order.specs.Relation.{Relation}

-- the same places and pairs, whatever the order of the pairs
pub record IsSameOrder (order other : Relation) : Type 0 where
  pub places : order.places ≡ other.places
  pub pairs : (e : ℕ × ℕ) → Contains order.pairs e ↔ Contains other.pairs e
