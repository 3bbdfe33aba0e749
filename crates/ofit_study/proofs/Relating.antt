-- Pairs by names and by places.
use Rattle.std.proofs.Common.{◌≡◌, ◌≢◌, ℕ, suc, ◌+◌, ◌<◌, ◌⊎◌, inl, inr, List, [], ◌∷◌, ◌++◌, refl, sym, ap, ap₂, ◌∙◌, ◌≤◌, subst, arith, length, get_or, take, drop, true≢false}
use Rattle.std.proofs.lemmas.List.{length-append, length-map, length-take, length-drop, take-append-drop, drop_more, get_or-map, map_push, take_more}
use Rattle.std.proofs.lemmas.List.Elements.{All-head, All-tail, All-append, All-push, All-take, All-drop, All-map, All-weaker, All-contains, Contains-append_cases, Contains-append_left, Contains-append_right}
use Rattle.std.proofs.lemmas.Option.{slice_get_within, get_or_from_slice_get}
use Rattle.std.specs.Prelude.{All, AllPairs, Contains, map, remove, slice_get, Option, None, Some, is_some, IsTrue, MatchOption, Bool, ◌↔◌}
pub use Rattle.ofit_num.proofs.Members.{in_map as Contains-map, from_map as Contains-from_map}
use Rattle.ofit_num.proofs.Sheets.{AllPairs-head}
use Rattle.ofit_study.specs.Study.{Study, IsValid, HasPairs, names_of, places_of, place_among}
use Rattle.ofit_study.specs.Kept.{named, name_at}
use Rattle.ofit_study.specs.Edited.{HasJustPairs}
use Rattle.ofit_study.proofs.Editing.{only_one, parts_cases, parts_others}
use Rattle.ofit_study.proofs.GroupNames.{group_names-distinct}
use Rattle.ofit_study.proofs.Pushing.{place_among-at, name_at-get, slice_get-Contains}
use Rattle.ofit_study.proofs.Splicing.{AllPairs-across, AllPairs-right}
use Rattle.ofit_study.proofs.Stating.{name_at-place, pairs_distinct}

-- the places of a pair of names
abbrev pub placed : List (List ℕ) → List ℕ × List ℕ → ℕ × ℕ
placed names e = (place_among names e.0, place_among names e.1)

abbrev pub IsKnown : List (List ℕ) → List ℕ × List ℕ → Type 0
IsKnown names e = Contains names e.0 × Contains names e.1

pub named_back : (names : List (List ℕ)) (e : List ℕ × List ℕ) → IsKnown names e → named names (placed names e) ≡ e
named_back names e k = ap₂ (λ (a b : List ℕ). (a, b)) (name_at-place names e.0 k.0).1 (name_at-place names e.1 k.1).1

pub named_list : (names : List (List ℕ)) (pairs : List (List ℕ × List ℕ)) → All (IsKnown names) pairs → map (named names) (map (placed names) pairs) ≡ pairs
named_list names [] h = refl
named_list names (e ∷ pairs) h =
    ap₂ (λ (x : List ℕ × List ℕ) (xs : List (List ℕ × List ℕ)). x ∷ xs) (named_back names e (All-head (IsKnown names) e pairs h)) (named_list names pairs (All-tail (IsKnown names) e pairs h))

-- known pairs stand among others just where their places do
pub placed_one : (names : List (List ℕ)) (pairs : List (List ℕ × List ℕ)) → All (IsKnown names) pairs → (e : List ℕ × List ℕ) → IsKnown names e → Contains (map (placed names) pairs) (placed names e) → Contains pairs e
placed_one names pairs h e k c =
    let f = Contains-from_map (placed names) pairs (placed names e) c in
    let same : f.0 ≡ e = sym (named_back names f.0 (All-contains (IsKnown names) pairs f.0 h f.1)) ∙ ap (named names) f.2 ∙ named_back names e k in
    subst (Contains pairs) same f.1

-- the places of names that stand at places
pub placed_at : (s : Study) (low high : List ℕ) (l h : ℕ) → slice_get (names_of s) l ≡ Some low → slice_get (names_of s) h ≡ Some high → placed (names_of s) (low, high) ≡ (l, h)
placed_at s low high l h e f = ap₂ (λ (a b : ℕ). (a, b)) (at low l e) (at high h f) where
  at : (name : List ℕ) (p : ℕ) → slice_get (names_of s) p ≡ Some name → place_among (names_of s) name ≡ p
  at name p g =
      ap (place_among (names_of s)) (sym (name_at-get (names_of s) p name g))
      ∙ place_among-at (names_of s) (group_names-distinct s.rows) p (slice_get_within (names_of s) p name g)

pub length_places : (s : Study) → length (places_of s) ≡ length s.pairs
length_places s = length-map s.pairs (placed (names_of s))

-- the ends of pairs are places of names
pub inside : (s : Study) → IsValid s → All (λ e. (e.0 < length (names_of s)) × (e.1 < length (names_of s))) (places_of s)
inside s v =
    All-map (λ e. (e.0 < length (names_of s)) × (e.1 < length (names_of s))) (placed (names_of s)) s.pairs
    (All-weaker (IsKnown (names_of s)) (λ e. ((placed (names_of s) e).0 < length (names_of s)) × ((placed (names_of s) e).1 < length (names_of s)))
    (λ e k. ((name_at-place (names_of s) e.0 k.0).0, (name_at-place (names_of s) e.1 k.1).0)) s.pairs v.known)

-- whether the study has the pair of two groups
module _ (s : Study) (v : IsValid s) (low high : List ℕ) (l m : ℕ) (low_is : slice_get (names_of s) l ≡ Some low) (high_is : slice_get (names_of s) m ≡ Some high) where
  pub pair_there : Contains (places_of s) (l, m) → Contains s.pairs (low, high)
  pair_there c =
      placed_one (names_of s) s.pairs v.known (low, high) (slice_get-Contains (names_of s) l low low_is, slice_get-Contains (names_of s) m high high_is)
      (subst (Contains (places_of s)) (sym (placed_at s low high l m low_is high_is)) c)

pub places_there : (s : Study) (low high : List ℕ) (l m : ℕ) → slice_get (names_of s) l ≡ Some low → slice_get (names_of s) m ≡ Some high → Contains s.pairs (low, high) → Contains (places_of s) (l, m)
places_there s low high l m low_is high_is c = subst (Contains (places_of s)) (placed_at s low high l m low_is high_is) (Contains-map (placed (names_of s)) s.pairs (low, high) c)

pub low_known : (s : Study) → IsValid s → (e : List ℕ × List ℕ) → Contains s.pairs e → IsKnown (names_of s) e
low_known s v e c = All-contains (IsKnown (names_of s)) s.pairs e v.known c

-- the ends of the pair at an index
pub ends_inside : (s : Study) → IsValid s → (i : ℕ) (e : ℕ × ℕ) → slice_get (places_of s) i ≡ Some e → (e.0 < length (names_of s)) × (e.1 < length (names_of s))
ends_inside s v i e at = All-contains (λ f. (f.0 < length (names_of s)) × (f.1 < length (names_of s))) (places_of s) e (inside s v) (slice_get-Contains (places_of s) i e at)

-- the names of the pair at an index
pub named_at : (s : Study) → IsValid s → (i : ℕ) (e : ℕ × ℕ) → slice_get (places_of s) i ≡ Some e → (d : List ℕ × List ℕ) → get_or s.pairs i d ≡ named (names_of s) e
named_at s v i e at d =
    ap (λ (t : List (List ℕ × List ℕ)). get_or t i d) (sym (named_list (names_of s) s.pairs v.known))
    ∙ get_or-map (named (names_of s)) (places_of s) i e d (slice_get_within (places_of s) i e at)
    ∙ ap (named (names_of s)) (get_or_from_slice_get (places_of s) i e e at)

pub named_known_at : (s : Study) → IsValid s → (names : List (List ℕ)) → All (λ p. Contains names p.0 × Contains names p.1) s.pairs → (i : ℕ) (e : ℕ × ℕ) → slice_get (places_of s) i ≡ Some e
    → Contains names (name_at (names_of s) e.0) × Contains names (name_at (names_of s) e.1)
named_known_at s v names h i e at =
    let f = named (names_of s) e in
    subst (λ (p : List ℕ × List ℕ). Contains names p.0 × Contains names p.1) (named_at s v i e at f) (h i f (omega (arith, slice_get_within (places_of s) i e at, length_places s)))

-- a pair of another study by its places here
pub named_more : (s : Study) → IsValid s → (names : List (List ℕ)) (items after : List (ℕ × ℕ)) (i : ℕ) (e f : ℕ × ℕ) → slice_get (places_of s) i ≡ Some e → named names f ≡ named (names_of s) e → f.0 < length names → f.1 < length names → after ≡ items ++ f ∷ []
    → (map (named names) items ≡ take i s.pairs) × All (λ p. (p.0 < length names) × (p.1 < length names)) items → (map (named names) after ≡ take (i + 1) s.pairs) × All (λ p. (p.0 < length names) × (p.1 < length names)) after
named_more s v names items after i e f at same low high is h = (
  ap (map (named names)) is
      ∙ map_push (named names) items f
      ∙ ap₂ (λ (xs : List (List ℕ × List ℕ)) (x : List ℕ × List ℕ). xs ++ x ∷ []) h.0 (same ∙ sym (named_at s v i e at (named names f)))
      ∙ sym (take_more s.pairs i (named names f) (omega (arith, slice_get_within (places_of s) i e at, length_places s))),
  subst (All (λ p. (p.0 < length names) × (p.1 < length names))) (sym is) (All-push (λ p. (p.0 < length names) × (p.1 < length names)) items f h.1 (low, high)),
)

-- an index of a pair tells that it stands
pub index_told : (pairs : List (ℕ × ℕ)) (e : ℕ × ℕ) (o : Option ℕ) → MatchOption o (Contains pairs e → ⊥) (λ i. slice_get pairs i ≡ Some e) → (b : Bool) → b ≡ is_some o → IsTrue b ↔ Contains pairs e
index_told pairs e None h b is = (λ t. absurd (true≢false (sym t ∙ is)), λ c. absurd (h c))
index_told pairs e (Some i) h b is = (λ t. slice_get-Contains pairs i e h, λ c. is)

-- the pairs of places without one of them
pub removed_all : {X : Type 0} (P : X → Type 0) (xs : List X) (i : ℕ) → All P xs → All P (remove xs i)
removed_all P xs i h = All-append P (take i xs) (drop (suc i) xs) (All-take P i xs h) (All-drop P (suc i) xs h)

pub removed_few : {X : Type 0} (xs : List X) (i : ℕ) → length (remove xs i) ≤ length xs
removed_few xs i = omega (arith, length-append (take i xs) (drop (suc i) xs), length-take i xs, length-drop (suc i) xs)

pub removed_just : (s : Study) → IsValid s → (i : ℕ) (e : ℕ × ℕ) → slice_get (places_of s) i ≡ Some e → (given : List (ℕ × ℕ)) → given ≡ remove (places_of s) i → (p : ℕ × ℕ) → Contains given p ↔ (Contains (places_of s) p × (p ≢ e))
removed_just s v i e at given is p = (λ c. from (subst (λ (t : List (ℕ × ℕ)). Contains t p) is c), λ h. subst (λ (t : List (ℕ × ℕ)). Contains t p) (sym is) (to h.0 h.1)) where
  split : places_of s ≡ take i (places_of s) ++ (e ∷ drop (suc i) (places_of s))
  split =
      let next : i + 1 ≡ suc i = omega arith in
      sym (take-append-drop i (places_of s))
      ∙ ap (λ (x : List (ℕ × ℕ)). take i (places_of s) ++ x)
      (drop_more (places_of s) i e (slice_get_within (places_of s) i e at) ∙ ap₂ (λ (x : ℕ × ℕ) (xs : List (ℕ × ℕ)). x ∷ xs) (get_or_from_slice_get (places_of s) i e e at) (ap (λ (n : ℕ). drop n (places_of s)) next))

  apart : AllPairs (λ a b. a ≡ b → ⊥) (take i (places_of s) ++ (e ∷ drop (suc i) (places_of s)))
  apart = subst (AllPairs (λ a b. a ≡ b → ⊥)) split (pairs_distinct s v)

  before_it : All (λ a. a ≡ e → ⊥) (take i (places_of s))
  before_it = All-weaker (λ a. All (λ b. a ≡ b → ⊥) (e ∷ drop (suc i) (places_of s))) (λ a. a ≡ e → ⊥) (λ a h. All-head (λ b. a ≡ b → ⊥) e (drop (suc i) (places_of s)) h) (take i (places_of s)) (AllPairs-across (λ a b. a ≡ b → ⊥) (take i (places_of s)) (e ∷ drop (suc i) (places_of s)) apart)

  behind_it : All (λ b. e ≡ b → ⊥) (drop (suc i) (places_of s))
  behind_it = AllPairs-head (λ a b. a ≡ b → ⊥) e (drop (suc i) (places_of s)) (AllPairs-right (λ a b. a ≡ b → ⊥) (take i (places_of s)) (e ∷ drop (suc i) (places_of s)) apart)

  from : Contains (take i (places_of s) ++ drop (suc i) (places_of s)) p → Contains (places_of s) p × (p ≢ e)
  from c = (
    subst (λ (t : List (ℕ × ℕ)). Contains t p) (sym split) (parts_others (take i (places_of s)) (e ∷ []) (drop (suc i) (places_of s)) p c),
    λ same. side same (Contains-append_cases (take i (places_of s)) (drop (suc i) (places_of s)) p c),
  ) where
    side : p ≡ e → Contains (take i (places_of s)) p ⊎ Contains (drop (suc i) (places_of s)) p → ⊥
    side same (inl a) = All-contains (λ x. x ≡ e → ⊥) (take i (places_of s)) p before_it a same
    side same (inr b) = All-contains (λ x. e ≡ x → ⊥) (drop (suc i) (places_of s)) p behind_it b (sym same)

  to : Contains (places_of s) p → p ≢ e → Contains (take i (places_of s) ++ drop (suc i) (places_of s)) p
  to c other = side (parts_cases (take i (places_of s)) (e ∷ []) (drop (suc i) (places_of s)) p (subst (λ (t : List (ℕ × ℕ)). Contains t p) split c)) where
    side : Contains (e ∷ []) p ⊎ Contains (take i (places_of s) ++ drop (suc i) (places_of s)) p → Contains (take i (places_of s) ++ drop (suc i) (places_of s)) p
    side (inl h) = absurd (other (sym (only_one e p h)))
    side (inr h) = h

module _ (s : Study) (v : IsValid s) (given : List (ℕ × ℕ)) (after : Study) (h : HasPairs s given after) where
  same_names : names_of after ≡ names_of s
  same_names = ap (λ (u : Study). names_of u) h.others

  known_after : All (IsKnown (names_of s)) after.pairs
  known_after = subst (λ (t : List (List ℕ)). All (IsKnown t) after.pairs) same_names h.known

  places_after : places_of after ≡ map (placed (names_of s)) after.pairs
  places_after = ap (λ (t : List (List ℕ)). map (placed t) after.pairs) same_names

  -- the pairs taken are those whose places are given
  taken_from : (e : List ℕ × List ℕ) → Contains after.pairs e → IsKnown (names_of s) e × Contains given (placed (names_of s) e)
  taken_from e c = (
    All-contains (IsKnown (names_of s)) after.pairs e known_after c,
    (h.only (placed (names_of s) e)).1 (subst (λ (t : List (ℕ × ℕ)). Contains t (placed (names_of s) e)) (sym places_after) (Contains-map (placed (names_of s)) after.pairs e c)),
  )

  taken_to : (e : List ℕ × List ℕ) → IsKnown (names_of s) e → Contains given (placed (names_of s) e) → Contains after.pairs e
  taken_to e k c = placed_one (names_of s) after.pairs known_after e k (subst (λ (t : List (ℕ × ℕ)). Contains t (placed (names_of s) e)) places_after ((h.only (placed (names_of s) e)).0 c))

  own_known : (e : List ℕ × List ℕ) → Contains s.pairs e → IsKnown (names_of s) e
  own_known e c = All-contains (IsKnown (names_of s)) s.pairs e v.known c

  module _ (low high : List ℕ) (l m : ℕ) (low_is : slice_get (names_of s) l ≡ Some low) (high_is : slice_get (names_of s) m ≡ Some high) where
    is_known : IsKnown (names_of s) (low, high)
    is_known = (slice_get-Contains (names_of s) l low low_is, slice_get-Contains (names_of s) m high high_is)

    its_places : placed (names_of s) (low, high) ≡ (l, m)
    its_places = placed_at s low high l m low_is high_is

    -- another pair has other places
    named_one : (e : List ℕ × List ℕ) → IsKnown (names_of s) e → placed (names_of s) e ≡ (l, m) → e ≡ (low, high)
    named_one e k same = sym (named_back (names_of s) e k) ∙ ap (named (names_of s)) (same ∙ sym its_places) ∙ named_back (names_of s) (low, high) is_known

    pub relating : given ≡ places_of s ++ (l, m) ∷ [] → HasJustPairs s (λ e. Contains s.pairs e ⊎ (e ≡ (low, high))) after
    relating is = record { others = h.others; in_order = h.in_order; just = λ e. (λ c. from e (taken_from e c), λ x. to e x) } where
      from : (e : List ℕ × List ℕ) → IsKnown (names_of s) e × Contains given (placed (names_of s) e) → Contains s.pairs e ⊎ (e ≡ (low, high))
      from e (k, c) = go (Contains-append_cases (places_of s) ((l, m) ∷ []) (placed (names_of s) e) (subst (λ (t : List (ℕ × ℕ)). Contains t (placed (names_of s) e)) is c)) where
        go : Contains (places_of s) (placed (names_of s) e) ⊎ Contains ((l, m) ∷ []) (placed (names_of s) e) → Contains s.pairs e ⊎ (e ≡ (low, high))
        go (inl a) = inl (placed_one (names_of s) s.pairs v.known e k a)
        go (inr b) = inr (named_one e k (sym (only_one (l, m) (placed (names_of s) e) b)))

      to : (e : List ℕ × List ℕ) → Contains s.pairs e ⊎ (e ≡ (low, high)) → Contains after.pairs e
      to e (inl c) = taken_to e (own_known e c) (subst (λ (t : List (ℕ × ℕ)). Contains t (placed (names_of s) e)) (sym is) (Contains-append_left (places_of s) ((l, m) ∷ []) (placed (names_of s) e) (Contains-map (placed (names_of s)) s.pairs e c)))
      to e (inr same) =
          subst (Contains after.pairs) (sym same)
          (taken_to (low, high) is_known (subst (λ (t : List (ℕ × ℕ)). Contains t (placed (names_of s) (low, high))) (sym is) (Contains-append_right (places_of s) ((l, m) ∷ []) (placed (names_of s) (low, high)) (0, omega arith, sym its_places))))

    pub unrelating : ((p : ℕ × ℕ) → Contains given p ↔ (Contains (places_of s) p × (p ≢ (l, m)))) → HasJustPairs s (λ e. Contains s.pairs e × (e ≢ (low, high))) after
    unrelating is = record { others = h.others; in_order = h.in_order; just = λ e. (λ c. from e (taken_from e c), λ x. to e x.0 x.1) } where
      from : (e : List ℕ × List ℕ) → IsKnown (names_of s) e × Contains given (placed (names_of s) e) → Contains s.pairs e × (e ≢ (low, high))
      from e (k, c) =
          let both = (is (placed (names_of s) e)).0 c in
          (placed_one (names_of s) s.pairs v.known e k both.0, λ same. both.1 (ap (placed (names_of s)) same ∙ its_places))

      to : (e : List ℕ × List ℕ) → Contains s.pairs e → e ≢ (low, high) → Contains after.pairs e
      to e c other = taken_to e (own_known e c) ((is (placed (names_of s) e)).1 (Contains-map (placed (names_of s)) s.pairs e c, λ same. other (named_one e (own_known e c) same)))
