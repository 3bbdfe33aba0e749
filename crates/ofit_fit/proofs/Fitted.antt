-- The components that are fitted, one after another.
use Rattle.std.proofs.Common.{◌≡◌, ℕ, ◌+◌, ◌<◌, ◌≤◌, sym, ap, subst, ◌∙◌, arith, inl, inr, List, length, slice_index}
use Rattle.std.proofs.lemmas.Bool.{cases_order}
use Rattle.std.proofs.lemmas.List.{same_lists, get_or-map, length-map, get_or_default}
use Rattle.std.proofs.lemmas.List.Elements.{Contains-get_or}
use Rattle.std.proofs.lemmas.Option.{unwrap_or-slice_get}
use Rattle.std.specs.Prelude.{Option, unwrap_or, pos, Result, Ok, Err, OnErr}
use Rattle.std.specs.List.{Contains}
use Rattle.ofit_num.specs.Problem.{Problem}
use Rattle.ofit_num.specs.Meaning.{Meaning}
use Rattle.ofit_num.specs.Fraction.{Fraction}
use Rattle.ofit_num.specs.Fit.{LeastBestValues}
use Rattle.ofit_order.specs.Relation.{Relation}
use Rattle.ofit_order.specs.Connection.{Joins}
use Rattle.ofit_order.specs.Component.{IsComponentOf, AreMembers, IsComponentCount, IsLeastPlace}
use Rattle.ofit_order.proofs.Walks.{IsReached-weaker}
use Rattle.ofit_order.proofs.Uniqueness.{only_component, AreLeastPlaces-same, HasComponent-below}
use Rattle.ofit_fit.specs.Part.{part_of, value_at, values_at}
use Rattle.ofit_fit.specs.OrderOf.{IsOrderOf}
use Rattle.ofit_fit.specs.Put.{ArePut}
use Rattle.ofit_fit.specs.Compose.{IsLeastBestByParts}
use Rattle.ofit_fit.specs.Counted.{HasComponentCount}
use Rattle.ofit_fit.proofs.Ready.{same_members}

-- the values of the first k components are least best for their parts
pub record AreFitted (order : Relation) (m : Meaning) (s : Problem) (k : ℕ) (values : List Fraction) : Type 0 where
  pub count : length values ≡ s.count
  pub parts : (j : ℕ) (members : List ℕ) → j < k → AreMembers order j members → LeastBestValues m (part_of s members) (values_at values members)

pub fitted_none : (order : Relation) (m : Meaning) (s : Problem) (values : List Fraction) → length values ≡ s.count → AreFitted order m s 0 values
fitted_none order m s values e = record { count = e; parts = λ j members l are. absurd (omega (arith, l)) }

-- the values that were put stand at their places
pub put_there : (members : List ℕ) (picked before after : List Fraction) → length picked ≡ length members → ArePut members picked before after → values_at after members ≡ picked
put_there members picked before after n put = same_lists (values_at after members) picked (length-map members (value_at after) ∙ sym n)
    (λ i d l.
    let b : i < length members = omega (arith, l, length-map members (value_at after)) in
    get_or-map (value_at after) members i 0 d b
    ∙ ap (λ (o : Option Fraction). unwrap_or o (record { num = pos 0; den = 1 })) (put.put i b)
    ∙ unwrap_or-slice_get picked i (record { num = pos 0; den = 1 })
    ∙ get_or_default picked i (record { num = pos 0; den = 1 }) d (omega (arith, b, n)))

-- and the others as before
pub put_elsewhere : (members others : List ℕ) (picked before after : List Fraction) → ((g : ℕ) → Contains others g → Contains members g → ⊥) → ArePut members picked before after → values_at after others ≡ values_at before others
put_elsewhere members others picked before after apart put = same_lists (values_at after others) (values_at before others) (length-map others (value_at after) ∙ sym (length-map others (value_at before)))
    (λ i d l.
    let b : i < length others = omega (arith, l, length-map others (value_at after)) in
    get_or-map (value_at after) others i 0 d b
    ∙ ap (λ (o : Option Fraction). unwrap_or o (record { num = pos 0; den = 1 })) (put.others (slice_index others i) (apart (slice_index others i) (Contains-get_or others i 0 b)))
    ∙ sym (get_or-map (value_at before) others i 0 d b))

pub fitted_more : (order : Relation) (m : Meaning) (s : Problem) (k : ℕ) (members : List ℕ) (picked before after : List Fraction) → AreMembers order k members → LeastBestValues m (part_of s members) picked → ArePut members picked before after
    → AreFitted order m s k before → AreFitted order m s (k + 1) after
fitted_more order m s k members picked before after are low put h = record {
  count = put.count ∙ h.count;
  parts = λ j others l x. elim (cases_order j k) [
    | inl e ↦ here others (subst (λ (i : ℕ). AreMembers order i others) e x)
    | inr o ↦ elim o [
      | inl b ↦ subst (LeastBestValues m (part_of s others)) (sym (put_elsewhere members others picked before after (λ g c d. apart j others b x g c d) put)) (h.parts j others b x)
      | inr b ↦ absurd (omega (arith, l, b))
    ]
  ];
} where
  here : (others : List ℕ) → AreMembers order k others → LeastBestValues m (part_of s others) (values_at after others)
  here others x =
      subst (λ (xs : List ℕ). LeastBestValues m (part_of s xs) (values_at after xs)) (same_members order k members others are x)
      (subst (LeastBestValues m (part_of s members)) (sym (put_there members picked before after low.count put)) low)

  apart : (j : ℕ) (others : List ℕ) → j < k → AreMembers order j others → (g : ℕ) → Contains others g → Contains members g → ⊥
  apart j others l x g c d =
      let a : IsComponentOf order j g = (x.exact g).0 c in
      let b : IsComponentOf order k g = (are.exact g).0 d in
      let same : k ≡ j = only_component order a.0 k g a.1 a.2 b in
      omega (arith, l, same)

pub fitted_all : (order : Relation) (m : Meaning) (s : Problem) (k n : ℕ) (values : List Fraction) → IsComponentCount order n → n ≤ k → AreFitted order m s k values → IsLeastBestByParts order m s values
fitted_all order m s k n values c l h = record {
  count = h.count;
  parts = λ component members has are. h.parts component members (omega (arith, HasComponent-below order c.0 component c.1 has, c.2, l)) are;
}

-- the count of components of the problem is that of its order
joins_same : (ps qs : List (ℕ × ℕ)) → ((e : ℕ × ℕ) → Contains ps e → Contains qs e) → (x y : ℕ) → Joins ps x y → Joins qs x y
joins_same ps qs to x y j = elim j [ inl h ↦ inl (to (x, y) h) | inr h ↦ inr (to (y, x) h) ]

pub count_of_order : (order : Relation) (s : Problem) (n : ℕ) → IsOrderOf order s → IsComponentCount order n → HasComponentCount s n
count_of_order order s n of c = (
  c.0,
  record {
    rising = c.1.rising;
    exact = λ p. ((λ h. to p ((c.1.exact p).0 h)), (λ h. (c.1.exact p).1 (back p h)));
  },
  c.2,
) where
  to : (p : ℕ) → IsLeastPlace order p → IsLeastPlace (record { places = s.count; pairs = s.pairs }) p
  to p h = record {
    inside = omega (arith, h.inside, of.places);
    least = λ q r. h.least q (IsReached-weaker (Joins s.pairs) (Joins order.pairs) (joins_same s.pairs order.pairs (λ e. (of.pairs e).1)) p q r);
  }

  back : (p : ℕ) → IsLeastPlace (record { places = s.count; pairs = s.pairs }) p → IsLeastPlace order p
  back p h = record {
    inside = omega (arith, h.inside, of.places);
    least = λ q r. h.least q (IsReached-weaker (Joins order.pairs) (Joins s.pairs) (joins_same order.pairs s.pairs (λ e. (of.pairs e).0)) p q r);
  }

pub one_count : (s : Problem) (a b : ℕ) → HasComponentCount s a → HasComponentCount s b → a ≡ b
one_count s a b x y = x.2 ∙ ap length (AreLeastPlaces-same (record { places = s.count; pairs = s.pairs }) x.0 y.0 x.1 y.1) ∙ sym y.2

-- what holds in any case holds after an error
pub at_any : {T E : Type 0} (r : Result T E) {P : Type 0} → P → OnErr r P
at_any (Ok x) p = tt
at_any (Err e) p = p
