-- Links between members, made one pair and one member at a time.
use Rattle.std.proofs.Common.{◌≡◌, ◌≢◌, ℕ, ◌+◌, ◌<◌, ◌≤◌, ◌⊎◌, refl, sym, ap, subst, ◌∙◌, arith, inl, inr, List, [], ◌∷◌, ◌++◌, length, get_or, set, slice_index, take, replicate, get_or-set_same, get_or-set_other, ◌↔◌}
use Rattle.std.proofs.lemmas.Bool.{cases_order}
use Rattle.std.proofs.lemmas.List.{get_or-take, length-take, get_or-replicate, length-replicate, length-set, get_or_default, take_all, get_or_append_left, get_or_push, length_push}
use Rattle.std.specs.Prelude.{Option, Some, None, MatchOption}
use Rattle.std.specs.List.{Contains}
use Rattle.ofit_fit.specs.Links.{HasPairTo, AreLinkedBack, AreLinks, IsLink, link_at}
use Rattle.ofit_order.specs.Connection.{LeadsUp}
use Rattle.ofit_order.specs.Shape.{LeadsDown}
use Rattle.ofit_fit.proofs.Places.{HasPlace, IsDistinct}
use Rattle.ofit_fit.proofs.Closed.{place_from_contains, contains_from_place}

-- an element of the first n
pub take_from : {X : Type 0} (xs : List X) (n : ℕ) (x : X) → Contains (take n xs) x → (k : ℕ) × (k < n) × (k < length xs) × (get_or xs k x ≡ x)
take_from xs n x h =
    let below : h.0 < n = omega (arith, h.1, length-take n xs) in
    (h.0, below, omega (arith, h.1, length-take n xs), sym (get_or-take n xs h.0 x below) ∙ h.2)

pub take_to : {X : Type 0} (xs : List X) (n : ℕ) (x : X) (k : ℕ) → k < n → k < length xs → get_or xs k x ≡ x → Contains (take n xs) x
take_to xs n x k l m e = (k, omega (arith, l, m, length-take n xs), get_or-take n xs k x l ∙ e)

pub take_grows : {X : Type 0} (xs : List X) (n : ℕ) (x : X) → Contains (take n xs) x → Contains (take (n + 1) xs) x
take_grows xs n x h =
    let f : (k : ℕ) × (k < n) × (k < length xs) × (get_or xs k x ≡ x) = take_from xs n x h in
    take_to xs (n + 1) x f.0 (omega (arith, f.1)) f.2 f.3

-- the element at n, or one of the first n
pub take_cases : {X : Type 0} (xs : List X) (n : ℕ) (x : X) → Contains (take (n + 1) xs) x → (get_or xs n x ≡ x) ⊎ Contains (take n xs) x
take_cases {X} xs n x h = go (cases_order f.0 n) where
  f : (k : ℕ) × (k < n + 1) × (k < length xs) × (get_or xs k x ≡ x)
  f = take_from xs (n + 1) x h

  go : (f.0 ≡ n) ⊎ ((f.0 < n) ⊎ (n < f.0)) → (get_or xs n x ≡ x) ⊎ Contains (take n xs) x
  go (inl e) = inl (ap (λ (k : ℕ). get_or xs k x) (sym e) ∙ f.3)
  go (inr (inl b)) = inr (take_to xs n x f.0 b f.2 f.3)
  go (inr (inr b)) = absurd (omega (arith, f.1, b))

pub linked_none : (members : List ℕ) (above : List (ℕ × ℕ)) (position : ℕ) (links : List (Option ℕ)) → AreLinkedBack members (take 0 above) position links links
linked_none members above position links = record {
  count = refl;
  each = λ j l. inr ((λ h. absurd (none h.0 h.1)), refl);
} where
  none : (a : ℕ) {b : ℕ} → Contains (take 0 above) (a, b) → ⊥
  none a {b} h =
      let f : (k : ℕ) × (k < 0) × (k < length above) × (get_or above k (a, b) ≡ (a, b)) = take_from above 0 (a, b) h in
      omega (arith, f.1)

pub linked_more : (members : List ℕ) (above : List (ℕ × ℕ)) (position : ℕ) (before after : List (Option ℕ)) (i q : ℕ) → IsDistinct (slice_index members) (length members) → length before ≡ length members
    → i < length above → q < length members → slice_index members q ≡ (get_or above i (0, 0)).1
    → AreLinkedBack members (take i above) position before after → AreLinkedBack members (take (i + 1) above) position before (set after q (Some position))
linked_more members above position before after i q distinct long l m at h = record {
  count = length-set after q (Some position) ∙ h.count;
  each = λ j b. go j b (cases_order j q);
} where
  pair : ℕ × ℕ
  pair = get_or above i (0, 0)

  here : Contains (take (i + 1) above) pair
  here = take_to above (i + 1) pair i (omega arith) l (get_or_default above i pair (0, 0) l)

  other : (j : ℕ) → j < length members → j ≢ q → (HasPairTo (take i above) (slice_index members j) × (link_at after j ≡ Some position)) ⊎ ((HasPairTo (take i above) (slice_index members j) → ⊥) × (link_at after j ≡ link_at before j))
      → (HasPairTo (take (i + 1) above) (slice_index members j) × (link_at (set after q (Some position)) j ≡ Some position)) ⊎ ((HasPairTo (take (i + 1) above) (slice_index members j) → ⊥) × (link_at (set after q (Some position)) j ≡ link_at before j))
  other j b d (inl x) = inl ((x.0.0, take_grows above i (x.0.0, slice_index members j) x.0.1), get_or-set_other after q j (Some position) None d ∙ x.1)
  other j b d (inr x) = inr ((λ y. none y.0 (take_cases above i (y.0, slice_index members j) y.1)), get_or-set_other after q j (Some position) None d ∙ x.1) where
    none : (a : ℕ) → (get_or above i (a, slice_index members j) ≡ (a, slice_index members j)) ⊎ Contains (take i above) (a, slice_index members j) → ⊥
    none a (inl e) =
        let same : slice_index members j ≡ slice_index members q = ap (λ (p : ℕ × ℕ). p.1) (sym e ∙ get_or_default above i (a, slice_index members j) (0, 0) l) ∙ sym at in
        d (distinct j q b m same)
    none a (inr e) = x.0 (a, e)

  go : (j : ℕ) → j < length members → (j ≡ q) ⊎ ((j < q) ⊎ (q < j)) → (HasPairTo (take (i + 1) above) (slice_index members j) × (link_at (set after q (Some position)) j ≡ Some position)) ⊎ ((HasPairTo (take (i + 1) above) (slice_index members j) → ⊥) × (link_at (set after q (Some position)) j ≡ link_at before j))
  go j b (inl e) = inl (
    (pair.0, subst (λ (g : ℕ). Contains (take (i + 1) above) (pair.0, g)) (sym at ∙ ap (slice_index members) (sym e)) here),
    ap (λ (k : ℕ). link_at (set after q (Some position)) k) e ∙ get_or-set_same after q (Some position) None (omega (arith, h.count, long, m)),
  )
  go j b (inr (inl x)) = other j b (λ e. absurd (omega (arith, e, x))) (h.each j b)
  go j b (inr (inr x)) = other j b (λ e. absurd (omega (arith, e, x))) (h.each j b)

pub linked_all : (members : List ℕ) (above : List (ℕ × ℕ)) (position : ℕ) (before after : List (Option ℕ)) (i : ℕ) → length above ≤ i → AreLinkedBack members (take i above) position before after → AreLinkedBack members above position before after
linked_all members above position before after i l h = subst (λ (xs : List (ℕ × ℕ)). AreLinkedBack members xs position before after) (take_all i above l) h

-- each member is linked to one of the first n members that a pair leads up from, or there is none
pub record AreLinkedUpTo (pairs : List (ℕ × ℕ)) (members : List ℕ) (n : ℕ) (links : List (Option ℕ)) : Type 0 where
  pub count : length links ≡ length members
  pub each : (j : ℕ) → j < length members
      → MatchOption (link_at links j) ((i : ℕ) → i < n → i < length members → Contains pairs (slice_index members i, slice_index members j) → ⊥)
      (λ i. (i < length members) × Contains pairs (slice_index members i, slice_index members j))

pub linked_start : (pairs : List (ℕ × ℕ)) (members : List ℕ) → AreLinkedUpTo pairs members 0 (replicate (length members) None)
linked_start pairs members = record {
  count = length-replicate (length members) None;
  each = λ j l.
      subst (λ (o : Option ℕ). MatchOption o ((i : ℕ) → i < 0 → i < length members → Contains pairs (slice_index members i, slice_index members j) → ⊥) (λ i. (i < length members) × Contains pairs (slice_index members i, slice_index members j)))
      (sym (get_or-replicate (length members) j None None l)) (λ i b m h. absurd (omega (arith, b)));
}

pub linked_step : (pairs : List (ℕ × ℕ)) (members : List ℕ) (above : List (ℕ × ℕ)) (n : ℕ) (before after : List (Option ℕ)) → n < length members → ((e : ℕ × ℕ) → Contains above e ↔ (Contains pairs e × (e.0 ≡ slice_index members n)))
    → AreLinkedBack members above n before after → AreLinkedUpTo pairs members n before → AreLinkedUpTo pairs members (n + 1) after
linked_step pairs members above n before after l exact back h = record {
  count = back.count ∙ h.count;
  each = λ j b. go j b (back.each j b) (h.each j b);
} where
  more : (j : ℕ) (o : Option ℕ) → (HasPairTo above (slice_index members j) → ⊥)
      → MatchOption o ((i : ℕ) → i < n → i < length members → Contains pairs (slice_index members i, slice_index members j) → ⊥) (λ i. (i < length members) × Contains pairs (slice_index members i, slice_index members j))
      → MatchOption o ((i : ℕ) → i < n + 1 → i < length members → Contains pairs (slice_index members i, slice_index members j) → ⊥) (λ i. (i < length members) × Contains pairs (slice_index members i, slice_index members j))
  more j None none h = λ i b m p. elim (cases_order i n) [
    | inl e ↦ none (slice_index members i, (exact _).1 (p, ap (slice_index members) e))
    | inr o ↦ elim o [ inl x ↦ h i x m p | inr x ↦ absurd (omega (arith, b, x)) ]
  ]
  more j (Some i) none h = h

  go : (j : ℕ) → j < length members → (HasPairTo above (slice_index members j) × (link_at after j ≡ Some n)) ⊎ ((HasPairTo above (slice_index members j) → ⊥) × (link_at after j ≡ link_at before j))
      → MatchOption (link_at before j) ((i : ℕ) → i < n → i < length members → Contains pairs (slice_index members i, slice_index members j) → ⊥) (λ i. (i < length members) × Contains pairs (slice_index members i, slice_index members j))
      → MatchOption (link_at after j) ((i : ℕ) → i < n + 1 → i < length members → Contains pairs (slice_index members i, slice_index members j) → ⊥) (λ i. (i < length members) × Contains pairs (slice_index members i, slice_index members j))
  go j b (inl x) m =
      let found : Contains pairs (x.0.0, slice_index members j) × (x.0.0 ≡ slice_index members n) = (exact (x.0.0, slice_index members j)).0 x.0.1 in
      subst (λ (o : Option ℕ). MatchOption o ((i : ℕ) → i < n + 1 → i < length members → Contains pairs (slice_index members i, slice_index members j) → ⊥) (λ i. (i < length members) × Contains pairs (slice_index members i, slice_index members j)))
      (sym x.1) (l, subst (λ (a : ℕ). Contains pairs (a, slice_index members j)) found.1 found.0)
  go j b (inr x) m =
      subst (λ (o : Option ℕ). MatchOption o ((i : ℕ) → i < n + 1 → i < length members → Contains pairs (slice_index members i, slice_index members j) → ⊥) (λ i. (i < length members) × Contains pairs (slice_index members i, slice_index members j)))
      (sym x.1) (more j (link_at before j) x.0 m)

-- with all members, the links go down
pub linked_down : (pairs : List (ℕ × ℕ)) (members : List ℕ) (n : ℕ) (links : List (Option ℕ)) → length members ≤ n → ((a b : ℕ) → LeadsUp pairs a b → Contains members a ↔ Contains members b)
    → AreLinkedUpTo pairs members n links → AreLinks (LeadsDown pairs) members links
linked_down pairs members n links l closed h = record {
  count = h.count;
  each = λ j b. go j b (link_at links j) (h.each j b);
} where
  go : (j : ℕ) → j < length members → (o : Option ℕ) → MatchOption o ((i : ℕ) → i < n → i < length members → Contains pairs (slice_index members i, slice_index members j) → ⊥) (λ i. (i < length members) × Contains pairs (slice_index members i, slice_index members j))
      → IsLink (LeadsDown pairs) members (slice_index members j) o
  go j b None none = λ a p.
      let x : HasPlace (slice_index members) (length members) a = place_from_contains members a ((closed a (slice_index members j) p).1 (contains_from_place members _ (j, b, refl))) in
      none x.0 (omega (arith, x.1, l)) x.1 (subst (λ (g : ℕ). Contains pairs (g, slice_index members j)) (sym x.2) p)
  go j b (Some i) found = found

-- links of the first members, and of one more
pub record AreFirstLinks (Step : ℕ → ℕ → Type 0) (members : List ℕ) (n : ℕ) (links : List (Option ℕ)) : Type 0 where
  pub count : length links ≡ n
  pub each : (i : ℕ) → i < n → IsLink Step members (slice_index members i) (link_at links i)

pub first_none : (Step : ℕ → ℕ → Type 0) (members : List ℕ) (links : List (Option ℕ)) → links ≡ [] → AreFirstLinks Step members 0 links
first_none Step members links e = record { count = ap length e; each = λ i l. absurd (omega (arith, l)) }

pub first_more : (Step : ℕ → ℕ → Type 0) (members : List ℕ) (n : ℕ) (links after : List (Option ℕ)) (link : Option ℕ) → after ≡ links ++ link ∷ [] → IsLink Step members (slice_index members n) link → AreFirstLinks Step members n links → AreFirstLinks Step members (n + 1) after
first_more Step members n links after link e is h = record {
  count = ap length e ∙ length_push links link ∙ ap (λ (k : ℕ). k + 1) h.count;
  each = λ i l. elim (cases_order i n) [
    | inl same ↦ subst (IsLink Step members (slice_index members i)) (sym (ap (λ (xs : List (Option ℕ)). link_at xs i) e ∙ get_or_push links link None i (h.count ∙ sym same))) (subst (λ (k : ℕ). IsLink Step members (slice_index members k) link) (sym same) is)
    | inr o ↦ elim o [
      | inl b ↦ subst (IsLink Step members (slice_index members i)) (sym (ap (λ (xs : List (Option ℕ)). link_at xs i) e ∙ get_or_append_left links (link ∷ []) None i (omega (arith, h.count, b)))) (h.each i b)
      | inr b ↦ absurd (omega (arith, l, b))
    ]
  ];
}

pub first_all : (Step : ℕ → ℕ → Type 0) (members : List ℕ) (n : ℕ) (links : List (Option ℕ)) → n ≡ length members → AreFirstLinks Step members n links → AreLinks Step members links
first_all Step members n links e h = record { count = h.count ∙ e; each = λ i l. h.each i (omega (arith, e, l)) }
