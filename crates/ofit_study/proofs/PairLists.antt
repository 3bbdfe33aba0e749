-- Pairs of places in the order of their names.
use Rattle.std.proofs.Common.{◌≡◌, ◌≢◌, ℕ, ◌+◌, ◌<◌, ◌⊎◌, inl, inr, true, false, List, [], ◌∷◌, Ordering, arith, length, refl, sym, ap, ap₂, subst, ◌∙◌, get_or}
use Rattle.std.specs.declared.cmp.Ordering.TheVariants.{Less, Equal, Greater}
use Rattle.std.specs.Cmp.{IsTotalOrder, nat_cmp_is}
use Rattle.std.specs.Cmp.Lexicographic.{nat_list_cmp_total, texts_ties, bytes_decides}
use Rattle.std.specs.Ordering.{nat_cmp, ordering_then, ordering_reverse, is_eq, is_lt, eq_by_cmp, MatchOrdering}
use Rattle.std.specs.List.Sorted.{IsStrictlySortedBy, IsSortedBy, IsPartitionPoint}
use Rattle.std.proofs.lemmas.Bool.{cases_order}
use Rattle.std.proofs.lemmas.Cmp.{then_total, on_total}
use Rattle.std.proofs.lemmas.List.{get_or-map, length-map}
use Rattle.std.proofs.lemmas.Option.{slice_get_within, slice_get-get_or, get_or_from_slice_get}
use Rattle.std.proofs.lemmas.List.Elements.{All-from_recursion, All-weaker, All-head, All-tail, All-map, All-contains, All-contains_itself}
use Rattle.std.proofs.lemmas.List.Kept.{AllPairs-cons}
use Rattle.std.specs.Prelude.{map, All, AllPairs, Contains, slice_get, Some}
use Rattle.ofit_order.proofs.PairOrder.{pair_cmp, pair_cmp_total, pair_eq, pair_eq-same, pair_eq_ties, pair_eq_equiv, bool_same}
use Rattle.ofit_study.specs.Kept.{named, name_at}
use Rattle.ofit_study.specs.PairOrder.{pair_order, text_order}
use Rattle.ofit_study.specs.Study.{ComesBefore}

same_pair : (e f : ℕ × ℕ) → e.0 ≡ f.0 → e.1 ≡ f.1 → pair_eq e f ≡ true
same_pair e f low high = subst (λ (t : ℕ × ℕ). pair_eq e t ≡ true) (ap₂ (λ (a b : ℕ). (a, b)) low high) (pair_eq_equiv.refl e)

module _ (names : List (List ℕ)) where
  pub pair_order_total : IsTotalOrder (pair_order names)
  pair_order_total =
      then_total (then_total (on_total (λ (e : ℕ × ℕ). name_at names e.0) nat_list_cmp_total) (on_total (λ (e : ℕ × ℕ). name_at names e.1) nat_list_cmp_total)) pair_cmp_total

  pub text_order-same : (a b : List ℕ) → a ≡ b → text_order a b ≡ Equal
  text_order-same a b e = equal (text_order a b) (sym (texts_ties a b) ∙ (bytes_decides a b).1 e) where
    equal : (o : Ordering) → is_eq o ≡ true → o ≡ Equal
    equal Less h = cc
    equal Equal h = refl
    equal Greater h = cc

  tied : (o p q : Ordering) → is_eq (ordering_then (ordering_then o p) q) ≡ true → q ≡ Equal
  tied Less p q e = cc
  tied Equal Less q e = cc
  tied Equal Equal Less e = cc
  tied Equal Equal Equal e = refl
  tied Equal Equal Greater e = cc
  tied Equal Greater q e = cc
  tied Greater p q e = cc

  all_tied : (o p q : Ordering) → o ≡ Equal → p ≡ Equal → is_eq (ordering_then (ordering_then o p) q) ≡ is_eq q
  all_tied o p q e f = ap (λ (t : Ordering). is_eq (ordering_then (ordering_then t p) q)) e ∙ ap (λ (t : Ordering). is_eq (ordering_then (ordering_then Equal t) q)) f

  same_order : (e f : ℕ × ℕ) → pair_eq e f ≡ true → is_eq (pair_order names e f) ≡ true
  same_order e f same =
      let one : e ≡ f = pair_eq-same e f same in
      all_tied (text_order (name_at names e.0) (name_at names f.0)) (text_order (name_at names e.1) (name_at names f.1)) (pair_cmp e f) (text_order-same _ _ (ap (λ (t : ℕ × ℕ). name_at names t.0) one)) (text_order-same _ _ (ap (λ (t : ℕ × ℕ). name_at names t.1) one))
      ∙ sym (pair_eq_ties e f) ∙ same

  -- equal pairs alone are tied
  pub pair_order_ties : (e f : ℕ × ℕ) → pair_eq e f ≡ eq_by_cmp (pair_order names) e f
  pair_order_ties e f =
      bool_same (pair_eq e f) (is_eq (pair_order names e f)) (same_order e f)
      (λ h. pair_eq_ties e f ∙ ap is_eq (tied (text_order (name_at names e.0) (name_at names f.0)) (text_order (name_at names e.1) (name_at names f.1)) (pair_cmp e f) h))

  text_order-equal : (a b : List ℕ) → text_order a b ≡ Equal → a ≡ b
  text_order-equal a b e = (bytes_decides a b).0 (texts_ties a b ∙ ap is_eq e)

  before_by : (o p q : Ordering) → ordering_then (ordering_then o p) q ≡ Less → (o ≡ Less) ⊎ (((o ≡ Equal) × (p ≡ Less)) ⊎ ((o ≡ Equal) × (p ≡ Equal)))
  before_by Less p q e = inl refl
  before_by Equal Less q e = inr (inl (refl, refl))
  before_by Equal Equal q e = inr (inr (refl, refl))
  before_by Equal Greater q e = cc
  before_by Greater p q e = cc

  abbrev pub IsInside : ℕ × ℕ → Type 0
  IsInside e = (e.0 < length names) × (e.1 < length names)

  pub inside_kept : (before after : List (ℕ × ℕ)) → All IsInside before → ((e : ℕ × ℕ) → Contains after e → Contains before e) → All IsInside after
  inside_kept before after h from = All-weaker (Contains after) IsInside (λ e k. All-contains IsInside before e h (from e k)) after (All-contains_itself after)

  module _ (distinct : AllPairs (λ a b. a ≢ b) names) where
    -- places whose names are equal are equal
    same_place : (p q : ℕ) → p < length names → q < length names → name_at names p ≡ name_at names q → p ≡ q
    same_place p q lp lq e = elim (cases_order p q) [
      | inl same ↦ same
      | inr other ↦ elim other [ inl l ↦ absurd (distinct p q [] l lq e) | inr l ↦ absurd (distinct q p [] l lp (sym e)) ]
    ]

    pub comes_before : (e f : ℕ × ℕ) → IsInside e → IsInside f → pair_order names e f ≡ Less → ComesBefore (named names e) (named names f)
    comes_before e f ie jf h = go (before_by (text_order (name_at names e.0) (name_at names f.0)) (text_order (name_at names e.1) (name_at names f.1)) (pair_cmp e f) h) where
      not_less : (o : Ordering) → o ≡ Less → is_eq o ≡ true → ⊥
      not_less o l m = cc

      go : (text_order (name_at names e.0) (name_at names f.0) ≡ Less) ⊎ (((text_order (name_at names e.0) (name_at names f.0) ≡ Equal) × (text_order (name_at names e.1) (name_at names f.1) ≡ Less))
          ⊎ ((text_order (name_at names e.0) (name_at names f.0) ≡ Equal) × (text_order (name_at names e.1) (name_at names f.1) ≡ Equal))) → ComesBefore (named names e) (named names f)
      go (inl l) = inl l
      go (inr (inl l)) = inr (text_order-equal _ _ l.0, l.1)
      go (inr (inr l)) =
          let low : e.0 ≡ f.0 = same_place e.0 f.0 ie.0 jf.0 (text_order-equal _ _ l.0) in
          let high : e.1 ≡ f.1 = same_place e.1 f.1 ie.1 jf.1 (text_order-equal _ _ l.1) in
          absurd (not_less (pair_order names e f) h (same_order e f (same_pair e f low high)))

    pub in_order : (pairs : List (ℕ × ℕ)) → All IsInside pairs → IsStrictlySortedBy (pair_order names) pairs → AllPairs ComesBefore (map (named names) pairs)
    unfolding IsStrictlySortedBy
    in_order [] h s = λ i j d l m. absurd (omega arith)
    in_order (e ∷ pairs) h s =
        AllPairs-cons ComesBefore (named names e) (map (named names) pairs)
        (All-map (ComesBefore (named names e)) (named names) pairs (λ k d l. comes_before e (get_or pairs k d) (All-head IsInside e pairs h) (All-tail IsInside e pairs h k d l) (All-from_recursion (λ f. pair_order names e f ≡ Less) pairs s.0 k d l)))
        (in_order pairs (All-tail IsInside e pairs h) s.1)

  equal_order : (e f : ℕ × ℕ) → e ≡ f → pair_order names e f ≡ Equal
  equal_order e f same = of_eq (pair_order names e f) (same_order e f (same_pair e f (ap (λ (t : ℕ × ℕ). t.0) same) (ap (λ (t : ℕ × ℕ). t.1) same))) where
    of_eq : (o : Ordering) → is_eq o ≡ true → o ≡ Equal
    of_eq Less h = cc
    of_eq Equal h = refl
    of_eq Greater h = cc

  less_by : (e f : ℕ × ℕ) (o p q : Ordering) → o ≡ Less → ordering_then (ordering_then o p) q ≡ Less
  less_by e f o p q h = ap (λ (t : Ordering). ordering_then (ordering_then t p) q) h

  less_by_high : (o p q : Ordering) → o ≡ Equal → p ≡ Less → ordering_then (ordering_then o p) q ≡ Less
  less_by_high o p q h k = ap₂ (λ (s t : Ordering). ordering_then (ordering_then s t) q) h k

  pub less_before : (e f : ℕ × ℕ) → ComesBefore (named names e) (named names f) → pair_order names e f ≡ Less
  less_before e f (inl b) = less_by e f (text_order (name_at names e.0) (name_at names f.0)) _ _ b
  less_before e f (inr b) = less_by_high (text_order (name_at names e.0) (name_at names f.0)) (text_order (name_at names e.1) (name_at names f.1)) _ (text_order-same _ _ b.0) b.1

  -- pairs in the order of their names
  module _ (pairs : List (ℕ × ℕ)) (ordered : AllPairs ComesBefore (map (named names) pairs)) where
    before_at : (i j : ℕ) (d : ℕ × ℕ) → i < j → j < length pairs → pair_order names (get_or pairs i d) (get_or pairs j d) ≡ Less
    before_at i j d l k =
        less_before (get_or pairs i d) (get_or pairs j d)
        (subst (λ (t : List ℕ × List ℕ). ComesBefore (named names (get_or pairs i d)) t) (get_or-map (named names) pairs j d ([], []) k)
        (subst (λ (t : List ℕ × List ℕ). ComesBefore t (get_or (map (named names) pairs) j ([], []))) (get_or-map (named names) pairs i d ([], []) (omega arith))
        (ordered i j ([], []) l (omega (arith, length-map pairs (named names))))))

    turned : (o p : Ordering) → o ≡ ordering_reverse p → p ≡ Less → o ≡ Greater
    turned o p e h = e ∙ ap ordering_reverse h

    not_less : (o : Ordering) → o ≡ Greater → is_lt o ≡ false
    not_less o e = ap is_lt e

    pub sorted : IsSortedBy (λ e f. is_lt (pair_order names e f)) pairs
    sorted k d l m = not_less _ (turned _ _ (pair_order_total.antisymm (get_or pairs (k + 1) d) (get_or pairs k d)) (before_at k (k + 1) d (omega arith) m))

    -- the order of two of them is that of their indexes
    pub order_at : (i j : ℕ) (e f : ℕ × ℕ) → slice_get pairs i ≡ Some e → slice_get pairs j ≡ Some f → pair_order names e f ≡ nat_cmp i j
    order_at i j e f a b = nat_cmp_is i j (pair_order names e f) (go (cases_order i j)) where
      at_i : get_or pairs i e ≡ e
      at_i = get_or_from_slice_get pairs i e e a

      at_j : get_or pairs j e ≡ f
      at_j = get_or_from_slice_get pairs j f e b

      go : (i ≡ j) ⊎ ((i < j) ⊎ (j < i)) → MatchOrdering (pair_order names e f) (i < j) (i ≡ j) (j < i)
      go (inl same) =
          let one : e ≡ f = sym at_i ∙ ap (λ (k : ℕ). get_or pairs k e) same ∙ at_j in
          subst (λ (o : Ordering). MatchOrdering o (i < j) (i ≡ j) (j < i)) (sym (equal_order e f one)) same
      go (inr (inl l)) =
          let less : pair_order names e f ≡ Less = subst (λ (t : ℕ × ℕ). pair_order names t f ≡ Less) at_i (subst (λ (t : ℕ × ℕ). pair_order names (get_or pairs i e) t ≡ Less) at_j (before_at i j e l (slice_get_within pairs j f b))) in
          subst (λ (o : Ordering). MatchOrdering o (i < j) (i ≡ j) (j < i)) (sym less) l
      go (inr (inr l)) =
          let less : pair_order names f e ≡ Less = subst (λ (t : ℕ × ℕ). pair_order names t e ≡ Less) at_j (subst (λ (t : ℕ × ℕ). pair_order names (get_or pairs j e) t ≡ Less) at_i (before_at j i e l (slice_get_within pairs i e a))) in
          subst (λ (o : Ordering). MatchOrdering o (i < j) (i ≡ j) (j < i)) (sym (turned _ _ (pair_order_total.antisymm e f) less)) l

    -- a search that ends without a find
    pub sought_nowhere : (x : ℕ × ℕ) (i : ℕ) → IsPartitionPoint (λ e. pair_order names e x ≡ Less) (λ e. pair_order names e x ≡ Greater) pairs i → Contains pairs x → ⊥
    sought_nowhere x i h c = go (cases_order c.0 i) where
      equal : pair_order names (get_or pairs c.0 x) x ≡ Equal
      equal = equal_order (get_or pairs c.0 x) x c.2

      is_less : pair_order names (get_or pairs c.0 x) x ≡ Less → ⊥
      is_less e = apart _ equal e where
        apart : (o : Ordering) → o ≡ Equal → o ≡ Less → ⊥
        apart o a b = cc

      is_greater : pair_order names (get_or pairs c.0 x) x ≡ Greater → ⊥
      is_greater e = apart _ equal e where
        apart : (o : Ordering) → o ≡ Equal → o ≡ Greater → ⊥
        apart o a b = cc

      go : (c.0 ≡ i) ⊎ ((c.0 < i) ⊎ (i < c.0)) → ⊥
      go (inl e) = is_greater (h.1 c.0 x (omega arith) c.1)
      go (inr (inl l)) = is_less (h.0 c.0 x (omega arith) l)
      go (inr (inr l)) = is_greater (h.1 c.0 x (omega arith) c.1)

    -- a find
    pub sought_here : (x : ℕ × ℕ) (i : ℕ) → i < length pairs → pair_order names (get_or pairs i x) x ≡ Equal → slice_get pairs i ≡ Some x
    sought_here x i l e = slice_get-get_or pairs i x l ∙ ap Some (pair_eq-same (get_or pairs i x) x (pair_order_ties (get_or pairs i x) x ∙ ap is_eq e))
