-- An order has one list of least places, and so one numbering of its components.
use Rattle.std.proofs.Common.{◌≡◌, ℕ, ◌<◌, ◌↔◌, inl, inr, List, length, slice_index, subst, ap, arith}
use Rattle.std.specs.List.{Contains}
use Rattle.std.proofs.lemmas.List.Elements.{All-contains, Contains-get_or}
use Rattle.ofit_order.specs.Relation.{Relation}
use Rattle.ofit_order.specs.Within.{AreWithin}
use Rattle.ofit_order.specs.Connection.{Joins, AreConnected}
use Rattle.ofit_order.specs.Component.{AreLeastPlaces, LiesIn, AreMembers, IsComponentOf}
use Rattle.ofit_order.specs.Numbers.{HasComponent}
use Rattle.ofit_order.proofs.Walks.{IsReached-refl, IsReached-cons, IsReached-back, IsReached-trans}
use Rattle.ofit_order.proofs.Increasing.{increasing_same, increasing_at}

pub Joins-back : (pairs : List (ℕ × ℕ)) (a b : ℕ) → Joins pairs a b → Joins pairs b a
Joins-back pairs a b j = elim j [ inl h ↦ inr h | inr h ↦ inl h ]

pub AreConnected-sym : (pairs : List (ℕ × ℕ)) (a b : ℕ) → AreConnected pairs a b → AreConnected pairs b a
AreConnected-sym pairs a b r = IsReached-back (Joins pairs) (Joins pairs) (Joins-back pairs) a b r

pub AreConnected-trans : (pairs : List (ℕ × ℕ)) (a b c : ℕ) → AreConnected pairs a b → AreConnected pairs b c → AreConnected pairs a c
AreConnected-trans pairs a b c r s = IsReached-trans (Joins pairs) a b c r s

pub AreLeastPlaces-same : (order : Relation) (xs ys : List ℕ) → AreLeastPlaces order xs → AreLeastPlaces order ys → xs ≡ ys
AreLeastPlaces-same order xs ys a b =
    increasing_same xs ys a.rising b.rising (λ p h. (b.exact p).1 ((a.exact p).0 h)) (λ p h. (a.exact p).1 ((b.exact p).0 h))

pub HasComponent-below : (order : Relation) (least : List ℕ) (component : ℕ) → AreLeastPlaces order least → HasComponent order component → component < length least
HasComponent-below order least component a h =
    let same = ap length (AreLeastPlaces-same order h.1.0 least h.1.1 a) in
    omega (arith, h.2, h.1.2, same)

-- two places lie in one component exactly where they are connected
pub LiesIn-connected : (order : Relation) (least : List ℕ) (k p q : ℕ) → LiesIn order least k p → LiesIn order least k q → AreConnected order.pairs p q
LiesIn-connected order least k p q a b = AreConnected-trans order.pairs p (slice_index least k) q (AreConnected-sym order.pairs _ _ a.connected) b.connected

pub LiesIn-same : (order : Relation) (least : List ℕ) (j k p q : ℕ) → AreLeastPlaces order least → LiesIn order least j p → LiesIn order least k q → AreConnected order.pairs p q → j ≡ k
LiesIn-same order least j k p q l a b r =
    let x = slice_index least j in
    let y = slice_index least k in
    let ps = order.pairs in
    let there : AreConnected ps x y = AreConnected-trans ps x p y a.connected (AreConnected-trans ps p q y r (AreConnected-sym ps y q b.connected)) in
    let low = ((l.exact x).0 (Contains-get_or least j 0 a.counted)).least y there in
    let high = ((l.exact y).0 (Contains-get_or least k 0 b.counted)).least x (AreConnected-sym ps x y there) in
    increasing_at least j k l.rising a.counted b.counted (omega arith)

-- a place lies in one component only
pub LiesIn-at : (order : Relation) (least other : List ℕ) (k p : ℕ) → AreLeastPlaces order least → AreLeastPlaces order other → LiesIn order other k p → LiesIn order least k p
LiesIn-at order least other k p a b h = subst (λ (t : List ℕ). LiesIn order t k p) (AreLeastPlaces-same order other least b a) h

pub LiesIn-along : (order : Relation) (least : List ℕ) (k p q : ℕ) → LiesIn order least k p → q < order.places → AreConnected order.pairs p q → LiesIn order least k q
LiesIn-along order least k p q h l r = record {
  counted = h.counted;
  inside = l;
  connected = AreConnected-trans order.pairs (slice_index least k) p q h.connected r;
}

pub Joins-inside : (ps : List (ℕ × ℕ)) (n a b : ℕ) → AreWithin ps n → Joins ps a b → b < n
Joins-inside ps n a b h j = elim j [
  | inl k ↦ (All-contains (λ (p : ℕ × ℕ). (p.0 < n) × (p.1 < n)) ps (a, b) h k).1
  | inr k ↦ (All-contains (λ (p : ℕ × ℕ). (p.0 < n) × (p.1 < n)) ps (b, a) h k).0
]

-- a pair stays in a component
pub members_along : (order : Relation) (k : ℕ) (members : List ℕ) → AreMembers order k members → AreWithin order.pairs order.places → (a b : ℕ) → Joins order.pairs a b → Contains members a → Contains members b
members_along order k members m within a b j h =
    let c = (m.exact a).0 h in
    let inside = Joins-inside order.pairs order.places a b within j in
    (m.exact b).1 (c.0, c.1, LiesIn-along order c.0 k a b c.2 inside (IsReached-cons (Joins order.pairs) a b b j (IsReached-refl (Joins order.pairs) b)))

pub only_component : (order : Relation) (least : List ℕ) (k p : ℕ) {j : ℕ} → AreLeastPlaces order least → LiesIn order least j p → IsComponentOf order k p → k ≡ j
only_component order least k p {j} l a h =
    LiesIn-same order least k j p p l (LiesIn-at order least h.0 k p l h.1 h.2) a (IsReached-refl (Joins order.pairs) p)

pub connected_component : (order : Relation) (least : List ℕ) (k p q : ℕ) → AreLeastPlaces order least → LiesIn order least k p → q < order.places → IsComponentOf order k q ↔ AreConnected order.pairs p q
connected_component order least k p q l a inside = (
  (λ h. LiesIn-connected order least k p q a (LiesIn-at order least h.0 k q l h.1 h.2)),
  (λ r. (least, l, LiesIn-along order least k p q a inside r)),
)
