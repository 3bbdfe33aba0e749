-- Fits compose: values are least best for a problem exactly where the values of each component are least best for its part.
use Rattle.std.specs.Prelude.{◌≡◌, ◌↔◌, ℕ, List, length}
use Rattle.ofit_num.specs.Problem.{Problem}
use Rattle.ofit_num.specs.Meaning.{Meaning}
use Rattle.ofit_num.specs.Fraction.{Fraction}
use Rattle.ofit_num.specs.Law.{HasScaling}
use Rattle.ofit_num.specs.Fit.{LeastBestValues}
use Rattle.ofit_order.specs.Relation.{Relation}
use Rattle.ofit_order.specs.Component.{AreMembers}
use Rattle.ofit_order.specs.Numbers.{HasComponent}
use Rattle.ofit_fit.specs.Part.{part_of, values_at}
use Rattle.ofit_fit.specs.OrderOf.{IsOrderOf}

-- there is one value for each group, and those of each component are least best for its part
pub record IsLeastBestByParts (order : Relation) (m : Meaning) (s : Problem) (values : List Fraction) : Type 0 where
  pub count : length values ≡ s.count
  pub parts : (component : ℕ) (members : List ℕ) → HasComponent order component → AreMembers order component members → LeastBestValues m (part_of s members) (values_at values members)

abbrev pub FitsCompose : Relation → Type 0
FitsCompose order = (m : Meaning) (s : Problem) → IsOrderOf order s → HasScaling m s → (values : List Fraction) → LeastBestValues m s values ↔ IsLeastBestByParts order m s values
