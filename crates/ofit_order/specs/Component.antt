-- Components: the largest sets of connected places, numbered by their least places.
use Rattle.std.specs.Prelude.{◌≡◌, ℕ, ◌<◌, ◌≤◌, ◌↔◌, List, length, slice_index}
use Rattle.std.specs.List.{Contains}
use Rattle.std.specs.List.Sorted.{IsStrictlyIncreasing}
use Rattle.ofit_order.specs.Relation.{Relation}
use Rattle.ofit_order.specs.Connection.{AreConnected}

-- no place that is connected with p comes before p
pub record IsLeastPlace (order : Relation) (p : ℕ) : Type 0 where
  pub inside : p < order.places
  pub least : (q : ℕ) → AreConnected order.pairs p q → p ≤ q

-- the least places of all components, in rising order
pub record AreLeastPlaces (order : Relation) (least : List ℕ) : Type 0 where
  pub rising : IsStrictlyIncreasing least
  pub exact : (p : ℕ) → Contains least p ↔ IsLeastPlace order p

-- where these are the least places of all components, the one of this number has the place p
pub record LiesIn (order : Relation) (least : List ℕ) (component p : ℕ) : Type 0 where
  pub counted : component < length least
  pub inside : p < order.places
  pub connected : AreConnected order.pairs (slice_index least component) p

-- so many components
abbrev pub IsComponentCount : Relation → ℕ → Type 0
IsComponentCount order count = (least : List ℕ) × AreLeastPlaces order least × (count ≡ length least)

-- the component of this number has the place p
abbrev pub IsComponentOf : Relation → ℕ → ℕ → Type 0
IsComponentOf order component p = (least : List ℕ) × AreLeastPlaces order least × LiesIn order least component p

-- these are the places of the component, in rising order
pub record AreMembers (order : Relation) (component : ℕ) (members : List ℕ) : Type 0 where
  pub rising : IsStrictlyIncreasing members
  pub exact : (p : ℕ) → Contains members p ↔ IsComponentOf order component p
