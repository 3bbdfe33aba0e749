-- The components of a problem's order are its parts.
use Rattle.std.proofs.Common.{◌≡◌, ℕ, ◌<◌, ◌⊎◌, refl, sym, arith, inl, inr, List, [], length, get_or, slice_index}
use Rattle.std.proofs.lemmas.Bool.{cases_order}
use Rattle.std.proofs.lemmas.List.Elements.{Contains-get_or, All-contains}
use Rattle.ofit_num.specs.Problem.{Problem}
use Rattle.ofit_num.specs.ProblemPairs.{HasPlaces}
use Rattle.ofit_num.specs.Meaning.{Meaning}
use Rattle.ofit_num.specs.Fraction.{Fraction}
use Rattle.ofit_num.specs.Fit.{LeastBestValues}
use Rattle.ofit_num.specs.Law.{HasScaling}
use Rattle.ofit_order.specs.Relation.{Relation}
use Rattle.ofit_order.specs.Within.{AreWithin}
use Rattle.ofit_order.specs.Component.{IsComponentOf, AreMembers}
use Rattle.ofit_order.specs.Numbers.{HasComponent}
use Rattle.ofit_order.proofs.Forming.{member_inside}
use Rattle.ofit_order.proofs.Uniqueness.{members_along, only_component}
use Rattle.ofit_fit.specs.Part.{part_of, values_at}
use Rattle.ofit_fit.specs.OrderOf.{IsOrderOf}
use Rattle.ofit_fit.specs.Compose.{IsLeastBestByParts}
use Rattle.ofit_fit.proofs.Up.{LiesIn, AreParts}
use Rattle.ofit_fit.proofs.Closed.{IsClosed, distinct_from_increasing, place_from_contains, contains_from_place, part_of-IsPart}
use Rattle.ofit_fit.proofs.Picked.{values_at-picks, values_down, values_up}

-- what the components of an order tell
pub record HasComponents (order : Relation) (count : ℕ) : Type 0 where
  pub within : AreWithin order.pairs order.places
  pub each : (k : ℕ) → k < count → HasComponent order k
  pub covers : (p : ℕ) → p < order.places → (k : ℕ) × (k < count) × IsComponentOf order k p
  pub listed : (k : ℕ) → k < count → (members : List ℕ) × AreMembers order k members

module _ (order : Relation) (within : AreWithin order.pairs order.places) (s : Problem) (of : IsOrderOf order s) where
  pub order_places : HasPlaces s
  order_places k d l =
      let e : ℕ × ℕ = get_or s.pairs k d in
      let h : (e.0 < order.places) × (e.1 < order.places) =
      All-contains (λ (e : ℕ × ℕ). (e.0 < order.places) × (e.1 < order.places)) order.pairs e within ((of.pairs e).1 (Contains-get_or s.pairs k d l)) in
      (omega (arith, h.0, of.places), omega (arith, h.1, of.places))

  pub members_closed : (k : ℕ) (members : List ℕ) → AreMembers order k members → IsClosed s members
  members_closed k members are = record {
    distinct = distinct_from_increasing members are.rising;
    inside = λ p h. omega (arith, of.places, member_inside order k members are p h);
    up = λ a b e h. members_along order k members are within a b (inl ((of.pairs (a, b)).1 e)) h;
    down = λ a b e h. members_along order k members are within b a (inr ((of.pairs (a, b)).1 e)) h;
  }

-- the members of a component of the count, and none otherwise
chosen : (order : Relation) (count : ℕ) → HasComponents order count → (k : ℕ) → (k ≡ count) ⊎ ((k < count) ⊎ (count < k)) → List ℕ
chosen order count h k (inl e) = []
chosen order count h k (inr (inl l)) = (h.listed k l).0
chosen order count h k (inr (inr l)) = []

chosen_are : (order : Relation) (count : ℕ) (h : HasComponents order count) (k : ℕ) (c : (k ≡ count) ⊎ ((k < count) ⊎ (count < k))) → k < count → AreMembers order k (chosen order count h k c)
unfolding chosen
chosen_are order count h k (inl e) l = absurd (omega arith)
chosen_are order count h k (inr (inl b)) l = (h.listed k b).1
chosen_are order count h k (inr (inr b)) l = absurd (omega arith)

module _ (order : Relation) (count : ℕ) (has : HasComponents order count) (m : Meaning) (s : Problem) (of : IsOrderOf order s) (law : HasScaling m s) where
  list : ℕ → List ℕ
  list k = chosen order count has k (cases_order k count)

  list_are : (k : ℕ) → k < count → AreMembers order k (list k)
  unfolding list
  list_are k l = chosen_are order count has k (cases_order k count) l

  components : AreParts s count (λ k. part_of s (list k)) (λ k. slice_index (list k))
  components = record {
    each = λ k l. part_of-IsPart s (list k) (members_closed order has.within s of k (list k) (list_are k l));
    cover = λ g l. lies g (has.covers g (omega (arith, of.places)));
    apart = λ j k g l b x y. same j k g (((list_are j l).exact g).0 (contains_from_place (list j) g x)) (((list_are k b).exact g).0 (contains_from_place (list k) g y));
  } where
    lies : (g : ℕ) → (k : ℕ) × (k < count) × IsComponentOf order k g → LiesIn count (λ k. part_of s (list k)) (λ k. slice_index (list k)) g
    lies g h = record { part = h.0; below = h.1; place = place_from_contains (list h.0) g (((list_are h.0 h.1).exact g).1 h.2) }

    same : (j k g : ℕ) → IsComponentOf order j g → IsComponentOf order k g → j ≡ k
    same j k g x y = sym (only_component order x.0 k g x.1 x.2 y)

  -- each member is the place of a value
  inside : (values : List Fraction) → length values ≡ s.count → (k : ℕ) (members : List ℕ) → AreMembers order k members → (i : ℕ) → i < length members → slice_index members i < length values
  inside values count k members are i l = omega (arith, count, of.places, member_inside order k members are (slice_index members i) (contains_from_place members _ (i, l, refl)))

  pub to_parts : (values : List Fraction) → LeastBestValues m s values → IsLeastBestByParts order m s values
  to_parts values low = record {
    count = low.count;
    parts = λ k members h are.
        values_down m s (part_of s members) (slice_index members) (part_of-IsPart s members (members_closed order has.within s of k members are)) law values (values_at values members)
        (values_at-picks values members (inside values low.count k members are)) low;
  }

  pub from_parts : (values : List Fraction) → IsLeastBestByParts order m s values → LeastBestValues m s values
  from_parts values low =
      values_up m s (order_places order has.within s of) law count (λ k. part_of s (list k)) (λ k. slice_index (list k)) components values low.count (λ k. values_at values (list k))
      (λ k l. values_at-picks values (list k) (inside values low.count k (list k) (list_are k l)))
      (λ k l. low.parts k (list k) (has.each k l) (list_are k l))
