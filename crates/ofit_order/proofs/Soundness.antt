-- The parts that are built for an order say what they should of it.
use Rattle.std.proofs.Common.{◌≡◌, ℕ, ◌<◌, ◌^◌, List, length, get_or, slice_index, subst, arith}
use Rattle.std.specs.List.{Contains}
use Rattle.std.proofs.lemmas.List.Elements.{All-contains, Contains-get_or}
use Rattle.ofit_order.specs.Relation.{Relation, AreInOrder}
use Rattle.ofit_order.specs.Within.{AreWithin}
use Rattle.ofit_order.specs.Connection.{Joins, AreConnected, IsReached}
use Rattle.ofit_order.specs.Component.{AreLeastPlaces, LiesIn}
use Rattle.ofit_order.specs.Form.{higher_count, lower_count}
use Rattle.ofit_order.specs.Rows.{HasNeighbour, AreNeighbours, AreMutual, ArePartsBelow}
use Rattle.ofit_order.specs.Search.{IsNumbering}
use Rattle.ofit_order.specs.Sound.{IsSound}
use Rattle.ofit_order.proofs.Walks.{IsReached-refl, IsReached-weaker}
use Rattle.ofit_order.proofs.Uniqueness.{Joins-inside, Joins-back, LiesIn-same, LiesIn-at}

pub AreWithin-kept : (ps qs : List (ℕ × ℕ)) (n : ℕ) → AreWithin ps n → ((p : ℕ × ℕ) → Contains qs p → Contains ps p) → AreWithin qs n
AreWithin-kept ps qs n h to = λ k d l. All-contains (λ (p : ℕ × ℕ). (p.0 < n) × (p.1 < n)) ps (get_or qs k d) h (to (get_or qs k d) (Contains-get_or qs k d l))

pub AreMutual-from : (ps : List (ℕ × ℕ)) (rows : List (List ℕ)) → AreNeighbours ps rows → AreWithin ps (length rows) → AreMutual rows
AreMutual-from ps rows n h = record {
  inside = λ a b k. Joins-inside ps (length rows) a b h ((n.exact a b).0 k);
  back = λ a b k. (n.exact b a).1 (Joins-back ps a b ((n.exact a b).0 k));
}

pub IsSound-from : (ps : List (ℕ × ℕ)) (rows : List (List ℕ)) (components : List ℕ) (count : ℕ) (parts : List (List ℕ)) (highers lowers : List ℕ) → AreInOrder ps → AreWithin ps (length components) → AreNeighbours ps rows → IsNumbering rows components count → length components < 2 ^ 32 → ArePartsBelow (length components) components parts → length parts ≡ count → length highers ≡ length components → length lowers ≡ length components → ((a : ℕ) → a < length components → slice_index highers a ≡ higher_count ps a) → ((a : ℕ) → a < length components → slice_index lowers a ≡ lower_count ps a) → IsSound (record { places = length components; pairs = ps }) components parts highers lowers
IsSound-from ps rows components count parts highers lowers sorted within n b small p counted high_long low_long high low =
    let order : Relation = record { places = length components; pairs = ps } in
    let Step = HasNeighbour rows in
    let to : (x y : ℕ) → IsReached Step x y → AreConnected ps x y = λ x y r. IsReached-weaker Step (Joins ps) (λ s t h. (n.exact s t).0 h) x y r in
    let from : (x y : ℕ) → AreConnected ps x y → IsReached Step x y = λ x y r. IsReached-weaker (Joins ps) Step (λ s t h. (n.exact s t).1 h) x y r in
    let long = b.as_long in
    let many = b.counted in
    let least_ok : AreLeastPlaces order b.least = record {
      rising = b.rising;
      exact = λ x. (
        (λ h. let l = (b.exact x).0 h in let i = l.inside in record { inside = omega arith; least = λ y r. l.least y (from x y r) }),
        (λ h. let i = h.inside in (b.exact x).1 (record { inside = omega arith; least = λ y r. h.least y (to x y r) })),
      );
    } in
    let lies : (x : ℕ) → x < length components → LiesIn order b.least (slice_index components x) x = λ x l.
    let inside : x < length rows = omega arith in
    let below = b.numbered x inside in
    record { counted = omega arith; inside = l; connected = to _ x (b.reached x inside) } in
    let few = b.few in
    record {
      least = b.least;
      exact = least_ok;
      in_order = sorted;
      within = within;
      small = small;
      few = omega arith;
      counted = omega arith;
      highers_long = high_long;
      lowers_long = low_long;
      lies = lies;
      rows = λ k l. record {
        rising = p.rising k;
        exact = λ x. (
          (λ h.
              let e = (p.exact k x).0 h in
              (b.least, least_ok, subst (λ (t : ℕ). LiesIn order b.least t x) e.1 (lies x e.0))),
          (λ h.
              let at_k = LiesIn-at order b.least h.0 k x least_ok h.1 h.2 in
              let inside = at_k.inside in
              let same = LiesIn-same order b.least (slice_index components x) k x x least_ok (lies x inside) at_k (IsReached-refl (Joins ps) x) in
              (p.exact k x).1 (inside, same)),
        );
      };
      highers_are = high;
      lowers_are = low;
    }
