-- The order of a problem.
use Rattle.std.specs.Prelude.{◌≡◌, ℕ, ◌↔◌}
use Rattle.std.specs.List.{Contains}
use Rattle.ofit_num.specs.Problem.{Problem}
use Rattle.ofit_order.specs.Relation.{Relation, AreInOrder}

-- the order is between the problem's places, by its pairs, each once and sorted
pub record IsOrderOf (order : Relation) (s : Problem) : Type 0 where
  pub places : order.places ≡ s.count
  pub in_order : AreInOrder order.pairs
  pub pairs : (e : ℕ × ℕ) → Contains order.pairs e ↔ Contains s.pairs e
