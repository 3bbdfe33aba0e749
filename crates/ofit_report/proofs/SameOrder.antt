-- Two orders with the same places and pairs have the same components.
use Rattle.std.proofs.Common.{inl, inr, ℕ, List, sym, arith}
use Rattle.ofit_order.specs.Relation.{Relation}
use Rattle.ofit_order.specs.Connection.{Joins, AreConnected}
use Rattle.ofit_order.specs.Component.{IsLeastPlace, AreLeastPlaces, IsComponentCount, IsComponentOf, AreMembers}
use Rattle.ofit_order.proofs.Walks.{IsReached-weaker}
use Rattle.ofit_report.specs.SameOrder.{IsSameOrder}

pub back : (order other : Relation) → IsSameOrder order other → IsSameOrder other order
back order other same = record { places = sym same.places; pairs = λ e. ((same.pairs e).1, (same.pairs e).0) }

module _ (order other : Relation) (same : IsSameOrder order other) where
  joined : (a b : ℕ) → Joins order.pairs a b → Joins other.pairs a b
  joined a b (inl h) = inl ((same.pairs (a, b)).0 h)
  joined a b (inr h) = inr ((same.pairs (b, a)).0 h)

  connected : (a b : ℕ) → AreConnected order.pairs a b → AreConnected other.pairs a b
  connected a b h = IsReached-weaker (Joins order.pairs) (Joins other.pairs) joined a b h

least : (order other : Relation) → IsSameOrder order other → (p : ℕ) → IsLeastPlace order p → IsLeastPlace other p
least order other same p h = record {
  inside = omega (arith, h.inside, same.places);
  least = λ q c. h.least q (connected other order (back order other same) p q c);
}

module _ (order other : Relation) (same : IsSameOrder order other) where
  pub least_places : (places : List ℕ) → AreLeastPlaces order places → AreLeastPlaces other places
  least_places places h = record {
    rising = h.rising;
    exact = λ p. (λ c. least order other same p ((h.exact p).0 c), λ l. (h.exact p).1 (least other order (back order other same) p l));
  }

  pub component_of : (k p : ℕ) → IsComponentOf order k p → IsComponentOf other k p
  component_of k p h = (h.0, least_places h.0 h.1, record { counted = h.2.counted; inside = omega (arith, h.2.inside, same.places); connected = connected order other same _ p h.2.connected })

  pub count_of : (count : ℕ) → IsComponentCount order count → IsComponentCount other count
  count_of count h = (h.0, least_places h.0 h.1, h.2)

pub members_of : (order other : Relation) → IsSameOrder order other → (k : ℕ) (members : List ℕ) → AreMembers order k members → AreMembers other k members
members_of order other same k members h = record {
  rising = h.rising;
  exact = λ p. (λ c. component_of order other same k p ((h.exact p).0 c), λ l. (h.exact p).1 (component_of other order (back order other same) k p l));
}
