-- The components of touched groups.
use Rattle.std.proofs.Common.{◌≡◌, ◌≢◌, ℕ, zero, suc, ◌⊎◌, inl, inr, List, [], ◌∷◌, refl, sym, ap, ◌∙◌, subst, arith}
use Rattle.std.proofs.lemmas.List.Elements.{All-contains}
use Rattle.std.proofs.lemmas.Option.{slice_get_within}
use Rattle.std.specs.Prelude.{All, Contains, Option, None, Some, Result, Ok, Err, IfOk, Vec, slice_get, ◌↔◌}
use Rattle.std.specs.List.Sorted.{IsStrictlyIncreasing}
use Rattle.std.specs.declared.alloc.Global.{Global}
use Rattle.ofit_order.specs.Component.{IsComponentOf}
use Rattle.ofit_order.specs.Relation.{Relation}
use Rattle.ofit_study.specs.Study.{Study, names_of, place_among}
use Rattle.ofit_study.proofs.GroupNames.{group_names-distinct}
use Rattle.ofit_study.proofs.Pushing.{name_at-get, place_among-at, slice_get-Contains}
use Rattle.ofit_session.specs.Refit.{AreHolding, HasNamed, HasOneNamed}

-- a name stands at one place
pub one_place : (s : Study) (p q : ℕ) (n : List ℕ) → slice_get (names_of s) p ≡ Some n → slice_get (names_of s) q ≡ Some n → p ≡ q
one_place s p q n e f = sym (at p e) ∙ at q f where
  at : (g : ℕ) → slice_get (names_of s) g ≡ Some n → place_among (names_of s) n ≡ g
  at g h = ap (place_among (names_of s)) (sym (name_at-get (names_of s) g n h)) ∙ place_among-at (names_of s) (group_names-distinct s.rows) g (slice_get_within (names_of s) g n h)

pub unknown_name : (s : Study) (n : List ℕ) (p : ℕ) → All (λ known. known ≢ n) (names_of s) → slice_get (names_of s) p ≡ Some n → ⊥
unknown_name s n p h e = All-contains (λ known. known ≢ n) (names_of s) n h (slice_get-Contains (names_of s) p n e) refl

-- the component of a group that is there, and of one that isn't
pub named_some : (order : Relation) (s : Study) (n : List ℕ) (place number : ℕ) → slice_get (names_of s) place ≡ Some n → IsComponentOf order number place → ((k : ℕ) → IsComponentOf order k place → k ≡ number)
    → (k : ℕ) → HasNamed order s n k ↔ (Some number ≡ Some k)
named_some order s n place number at is only k = (to, from) where
  to : HasNamed order s n k → Some number ≡ Some k
  to h = ap Some (sym (only k (subst (IsComponentOf order k) (one_place s h.place place n h.named at) h.has)))

  from : Some number ≡ Some k → HasNamed order s n k
  from e =
      let same : number ≡ k = cc in
      record { place = place; named = at; has = subst (λ (j : ℕ). IsComponentOf order j place) same is }

pub named_none : (order : Relation) (s : Study) (n : List ℕ) → All (λ known. known ≢ n) (names_of s) → (k : ℕ) → HasNamed order s n k ↔ (None ≡ Some k)
named_none order s n h k = (λ x. absurd (unknown_name s n x.place h x.named), λ e. absurd cc)

-- of one touched name, of two and of none
only_of : (n m : List ℕ) → Contains (n ∷ []) m → n ≡ m
only_of n m (zero, l, e) = e
only_of n m (suc k, l, e) = absurd (omega (arith, l))

two_of : (a b m : List ℕ) → Contains (a ∷ b ∷ []) m → (a ≡ m) ⊎ (b ≡ m)
two_of a b m (zero, l, e) = inl e
two_of a b m (suc zero, l, e) = inr e
two_of a b m (suc (suc k), l, e) = absurd (omega (arith, l))

pub one_touched : (order : Relation) (s : Study) (names : List (List ℕ)) (n : List ℕ) (o : Option ℕ) → names ≡ n ∷ [] → ((k : ℕ) → HasNamed order s n k ↔ (o ≡ Some k)) → (k : ℕ) → HasOneNamed order s names k ↔ ((o ≡ Some k) ⊎ (None ≡ Some k))
one_touched order s names n o is h k = (to, from) where
  to : HasOneNamed order s names k → (o ≡ Some k) ⊎ (None ≡ Some k)
  to (m, c, x) = inl ((h k).0 (subst (λ (a : List ℕ). HasNamed order s a k) (sym (only_of n m (subst (λ (t : List (List ℕ)). Contains t m) is c))) x))

  from : (o ≡ Some k) ⊎ (None ≡ Some k) → HasOneNamed order s names k
  from (inl e) = (n, subst (λ (t : List (List ℕ)). Contains t n) (sym is) (0, omega arith, refl), (h k).1 e)
  from (inr e) = absurd cc

pub two_touched : (order : Relation) (s : Study) (low high : List ℕ) (o p : Option ℕ) → ((k : ℕ) → HasNamed order s low k ↔ (o ≡ Some k)) → ((k : ℕ) → HasNamed order s high k ↔ (p ≡ Some k))
    → (k : ℕ) → HasOneNamed order s (low ∷ high ∷ []) k ↔ ((o ≡ Some k) ⊎ (p ≡ Some k))
two_touched order s low high o p g h k = (to, from) where
  to : HasOneNamed order s (low ∷ high ∷ []) k → (o ≡ Some k) ⊎ (p ≡ Some k)
  to (m, c, x) = side (two_of low high m c) where
    side : (low ≡ m) ⊎ (high ≡ m) → (o ≡ Some k) ⊎ (p ≡ Some k)
    side (inl e) = inl ((g k).0 (subst (λ (a : List ℕ). HasNamed order s a k) (sym e) x))
    side (inr e) = inr ((h k).0 (subst (λ (a : List ℕ). HasNamed order s a k) (sym e) x))

  from : (o ≡ Some k) ⊎ (p ≡ Some k) → HasOneNamed order s (low ∷ high ∷ []) k
  from (inl e) = (low, (0, omega arith, refl), (g k).1 e)
  from (inr e) = (high, (1, omega arith, refl), (h k).1 e)

pub none_touched : (order : Relation) (s : Study) (names : List (List ℕ)) → names ≡ [] → (k : ℕ) → HasOneNamed order s names k ↔ ((None ≡ Some k) ⊎ (None ≡ Some k))
none_touched order s names is k = (to, from) where
  to : HasOneNamed order s names k → (None ≡ Some k) ⊎ (None ≡ Some k)
  to (m, c, x) = absurd (omega (arith, (subst (λ (t : List (List ℕ)). Contains t m) is c).1))

  from : (None ≡ Some k) ⊎ (None ≡ Some k) → HasOneNamed order s names k
  from (inl e) = absurd cc
  from (inr e) = absurd cc

-- the list of both
pub holding_from : {E : Type 0} (order : Relation) (s : Study) (names : List (List ℕ)) (o p : Option ℕ) → ((k : ℕ) → HasOneNamed order s names k ↔ ((o ≡ Some k) ⊎ (p ≡ Some k))) → (r : Result (Vec ℕ Global) E)
    → IfOk r (λ list. IsStrictlyIncreasing list.items) → IfOk r (λ list. (k : ℕ) → Contains list.items k ↔ ((o ≡ Some k) ⊎ (p ≡ Some k))) → IfOk r (λ list. AreHolding order s names list.items)
holding_from order s names o p h (Ok list) rising exact = record { rising = rising; exact = λ k. (λ c. (h k).1 ((exact k).0 c), λ x. (exact k).1 ((h k).0 x)) }
holding_from order s names o p h (Err e) rising exact = tt
