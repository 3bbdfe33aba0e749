-- Pairs that are sorted and distinct come each before all later ones.
use Rattle.std.proofs.Common.{◌≡◌, ℕ, ◌<◌, ◌⊎◌, inl, inr, Bool, true, false, ◌&&◌, eqb, List, [], ◌∷◌, Ordering, arith, refl, sym, ap, subst, ◌∙◌, eq-eqb}
use Rattle.std.specs.declared.cmp.Ordering.TheVariants.{Less, Equal, Greater}
use Rattle.std.specs.Cmp.{IsTotalOrder, IsEquivalence}
use Rattle.std.specs.Ordering.{nat_cmp, ordering_then, MatchOrdering, is_eq, eq_by_cmp}
use Rattle.std.specs.List.Sorted.{IsStrictlySortedBy}
use Rattle.std.proofs.lemmas.Bool.{eqb-true}
use Rattle.std.proofs.lemmas.Bool.Decides.{nat_tests}
use Rattle.std.proofs.lemmas.Cmp.{ranked, then_total, on_total, nat_cmp_total}
use Rattle.std.proofs.lemmas.List.Elements.{All-from_recursion, All-weaker}
use Rattle.std.proofs.lemmas.List.Kept.{AllPairs-cons}
use Rattle.ofit_order.specs.Relation.{ComesBefore, AreInOrder}

abbrev pub pair_cmp : ℕ × ℕ → ℕ × ℕ → Ordering
pair_cmp x y = ordering_then (nat_cmp x.0 y.0) (nat_cmp x.1 y.1)

pub pair_cmp_total : IsTotalOrder pair_cmp
pair_cmp_total = then_total (on_total (λ (p : ℕ × ℕ). p.0) nat_cmp_total) (on_total (λ (p : ℕ × ℕ). p.1) nat_cmp_total)

less_by : (a b c d : ℕ) (o s : Ordering) → MatchOrdering o (a < b) (a ≡ b) (b < a) → MatchOrdering s (c < d) (c ≡ d) (d < c) → ordering_then o s ≡ Less → (a < b) ⊎ ((a ≡ b) × (c < d))
less_by a b c d Less s m n e = inl m
less_by a b c d Equal Less m n e = inr (m, n)
less_by a b c d Equal Equal m n e = cc
less_by a b c d Equal Greater m n e = cc
less_by a b c d Greater s m n e = cc

pub ComesBefore-from_cmp : (p q : ℕ × ℕ) → pair_cmp p q ≡ Less → ComesBefore p q
ComesBefore-from_cmp p q e = less_by p.0 q.0 p.1 q.1 _ _ (ranked p.0 q.0 _ refl) (ranked p.1 q.1 _ refl) e

pub AreInOrder-from_sorted : (ps : List (ℕ × ℕ)) → IsStrictlySortedBy pair_cmp ps → AreInOrder ps
unfolding IsStrictlySortedBy
AreInOrder-from_sorted [] h = λ i j d l m. absurd (omega arith)
AreInOrder-from_sorted (p ∷ ps) h =
    AllPairs-cons ComesBefore p ps
    (All-weaker (λ q. pair_cmp p q ≡ Less) (ComesBefore p) (ComesBefore-from_cmp p) ps (All-from_recursion (λ q. pair_cmp p q ≡ Less) ps h.0))
    (AreInOrder-from_sorted ps h.1)

abbrev pub pair_eq : ℕ × ℕ → ℕ × ℕ → Bool
pair_eq x y = eqb x.0 y.0 && eqb x.1 y.1

pub bool_same : (a b : Bool) → (a ≡ true → b ≡ true) → (b ≡ true → a ≡ true) → a ≡ b
bool_same true b f g = sym (f refl)
bool_same false true f g = g refl
bool_same false false f g = refl

and_left : (a b : Bool) → (a && b) ≡ true → a ≡ true
and_left true b e = refl
and_left false b e = e

and_right : (a b : Bool) → (a && b) ≡ true → b ≡ true
and_right true b e = e
and_right false b e = cc

pub pair_eq-same : (x y : ℕ × ℕ) → pair_eq x y ≡ true → x ≡ y
pair_eq-same x y e =
    let f : x.0 ≡ y.0 = eqb-true _ _ (and_left _ _ e) in
    let g : x.1 ≡ y.1 = eqb-true _ _ (and_right _ _ e) in
    ap (λ (t : ℕ). (t, x.1)) f ∙ ap (λ (t : ℕ). (y.0, t)) g

pair_eq-refl : (x : ℕ × ℕ) → pair_eq x x ≡ true
pair_eq-refl x = rw (eq-eqb x.0 x.0 refl, eq-eqb x.1 x.1 refl)

pair_eq-back : (x y : ℕ × ℕ) → pair_eq x y ≡ true → pair_eq y x ≡ true
pair_eq-back x y e = subst (λ (t : ℕ × ℕ). pair_eq t x ≡ true) (pair_eq-same x y e) (pair_eq-refl x)

pub pair_eq_equiv : IsEquivalence pair_eq
pair_eq_equiv = record {
  refl = pair_eq-refl;
  symm = λ x y. bool_same _ _ (pair_eq-back x y) (pair_eq-back y x);
  congr = λ x y z e. ap (λ (t : ℕ × ℕ). pair_eq t z) (pair_eq-same x y e);
}

eq_is : (a b : ℕ) → eqb a b ≡ is_eq (nat_cmp a b)
eq_is a b = grind (arith, nat_tests)

both : (o s : Ordering) → (is_eq o && is_eq s) ≡ is_eq (ordering_then o s)
both Less s = refl
both Equal s = refl
both Greater s = refl

pub pair_eq_ties : (x y : ℕ × ℕ) → pair_eq x y ≡ eq_by_cmp pair_cmp x y
pair_eq_ties x y =
    ap (λ (t : Bool). t && eqb x.1 y.1) (eq_is x.0 y.0)
    ∙ ap (λ (t : Bool). is_eq (nat_cmp x.0 y.0) && t) (eq_is x.1 y.1)
    ∙ both (nat_cmp x.0 y.0) (nat_cmp x.1 y.1)
