-- What the parts of an order say of it.
use Rattle.std.specs.Prelude.{◌≡◌, ℕ, ◌<◌, ◌≤◌, ◌^◌, List, length, slice_index}
use Rattle.ofit_order.specs.Relation.{Relation, AreInOrder}
use Rattle.ofit_order.specs.Within.{AreWithin}
use Rattle.ofit_order.specs.Component.{AreLeastPlaces, LiesIn, AreMembers}
use Rattle.ofit_order.specs.Form.{higher_count, lower_count}
use Rattle.ofit_order.specs.Rows.{row}

-- components has each place's number, members has each component's places, and the last two count neighbours
pub record IsSound (order : Relation) (components : List ℕ) (members : List (List ℕ)) (highers lowers : List ℕ) : Type 0 where
  pub least : List ℕ
  pub exact : AreLeastPlaces order least
  pub in_order : AreInOrder order.pairs
  pub within : AreWithin order.pairs order.places
  pub small : order.places < 2 ^ 32
  pub few : length least ≤ order.places
  pub counted : length members ≡ length least
  pub highers_long : length highers ≡ order.places
  pub lowers_long : length lowers ≡ order.places
  pub lies : (p : ℕ) → p < order.places → LiesIn order least (slice_index components p) p
  pub rows : (k : ℕ) → k < length least → AreMembers order k (row members k)
  pub highers_are : (p : ℕ) → p < order.places → slice_index highers p ≡ higher_count order.pairs p
  pub lowers_are : (p : ℕ) → p < order.places → slice_index lowers p ≡ lower_count order.pairs p
