-- What the search has seen and found, after one more step.
use Rattle.std.proofs.Common.{◌≡◌, ℕ, ◌+◌, ◌<◌, ◌≤◌, ◌⊎◌, ◌↔◌, inl, inr, Bool, true, false, not, cond, List, [], ◌∷◌, ◌++◌, length, set, get_or, slice_index, refl, sym, subst, ap, ◌∙◌, arith, append_assoc, get_or-set_same, get_or-set_other, length-append}
use Rattle.std.specs.List.{Contains, All}
use Rattle.std.proofs.lemmas.Bool.{cases_eq, cases_lt, true≢false}
use Rattle.std.proofs.lemmas.List.{length-set, length_push, append-nil, get_or_append_left, get_or_default}
use Rattle.std.proofs.lemmas.List.Sums.{sum_by-set}
use Rattle.std.proofs.lemmas.List.Elements.{All-push, All-weaker, All-append, All-contains, Contains-get_or, Contains-append_left, Contains-append_right, Contains-push, Contains-push_cases, Contains-append_cases}
use Rattle.ofit_order.specs.Connection.{IsReached}
use Rattle.ofit_order.specs.Rows.{row, HasNeighbour, AreMutual}
use Rattle.ofit_order.specs.Search.{IsSeen, unseen_count, IsClosed, Visits, FindsReached}
use Rattle.ofit_order.proofs.Walks.{IsReached-refl, IsReached-push, IsReached-keeps}

pub not_in_nil : (p : ℕ) → Contains [] p → ⊥
not_in_nil p h = let l : h.0 < 0 = h.1 in omega arith

IsSeen-set_same : (seen : List Bool) (q : ℕ) → q < length seen → IsSeen (set seen q true) q
IsSeen-set_same seen q l = get_or-set_same seen q true false l

pub IsSeen-set : (seen : List Bool) (q p : ℕ) → q < length seen → IsSeen seen p → IsSeen (set seen q true) p
IsSeen-set seen q p l h =
    elim (cases_eq p q) [
      | inl e ↦ subst (λ (t : ℕ). IsSeen (set seen q true) t) (sym e) (IsSeen-set_same seen q l)
      | inr n ↦ get_or-set_other seen q p true false n ∙ h
    ]

pub IsSeen-set_cases : (seen : List Bool) (q p : ℕ) → q < length seen → IsSeen (set seen q true) p → IsSeen seen p ⊎ (q ≡ p)
IsSeen-set_cases seen q p l h =
    elim (cases_eq p q) [ inl e ↦ inr (sym e) | inr n ↦ inl (sym (get_or-set_other seen q p true false n) ∙ h) ]

not_seen : (seen : List Bool) (q : ℕ) → get_or seen q false ≡ false → IsSeen seen q → ⊥
not_seen seen q n h = true≢false (sym h ∙ n)

pub unseen_count-set : (seen : List Bool) (q : ℕ) → q < length seen → get_or seen q false ≡ false → unseen_count (set seen q true) + 1 ≡ unseen_count seen
unseen_count-set seen q l n =
    let f = λ (x : Bool). cond (not x) 1 0 in
    let same = sum_by-set f seen q true false l in
    let one : f (get_or seen q false) ≡ 1 = rw n in
    omega (arith, same, one)

-- nothing is visited at first
pub Visits-none : (found : List ℕ) (seen : List Bool) → Visits [] found found seen seen
Visits-none found seen = record {
  more = [];
  grown = sym (append-nil found);
  fresh = λ p h. absurd (not_in_nil p h);
  marked = λ p. ((λ h. inl h), (λ h. elim h [ inl k ↦ k | inr k ↦ absurd (not_in_nil p k) ]));
  all = λ k d l. absurd (omega arith);
  as_long = refl;
  balance = refl;
}

-- the next neighbour is seen already
pub Visits-seen : (ns found found' : List ℕ) (seen seen' : List Bool) (q : ℕ) → Visits ns found found' seen seen' → IsSeen seen' q → Visits (ns ++ q ∷ []) found found' seen seen'
Visits-seen ns found found' seen seen' q v h = record {
  more = v.more;
  grown = v.grown;
  fresh = λ p k. (Contains-append_left ns (q ∷ []) p (v.fresh p k).0, (v.fresh p k).1);
  marked = v.marked;
  all = All-push (IsSeen seen') ns q v.all h;
  as_long = v.as_long;
  balance = v.balance;
}

-- the next neighbour is not seen yet
pub Visits-new : (ns found found' : List ℕ) (seen seen' : List Bool) (q : ℕ) → Visits ns found found' seen seen' → q < length seen' → get_or seen' q false ≡ false → Visits (ns ++ q ∷ []) found (found' ++ q ∷ []) seen (set seen' q true)
Visits-new ns found found' seen seen' q v l n =
    let after = set seen' q true in
    let fewer = unseen_count-set seen' q l n in
    let longer = length_push found' q in
    record {
      more = v.more ++ q ∷ [];
      grown = ap (λ (t : List ℕ). t ++ q ∷ []) v.grown ∙ append_assoc found v.more (q ∷ []);
      fresh = λ p h. elim (Contains-push_cases v.more q p h) [
        | inl k ↦ (Contains-append_left ns (q ∷ []) p (v.fresh p k).0, (v.fresh p k).1)
        | inr e ↦ (
          subst (Contains (ns ++ q ∷ [])) e (Contains-push ns q),
          (λ s. not_seen seen' q n ((v.marked q).1 (inl (subst (IsSeen seen) (sym e) s)))),
        )
      ];
      marked = λ p. (
        (λ h. elim (IsSeen-set_cases seen' q p l h) [
          | inl k ↦ elim ((v.marked p).0 k) [ inl s ↦ inl s | inr m ↦ inr (Contains-append_left v.more (q ∷ []) p m) ]
          | inr e ↦ inr (subst (Contains (v.more ++ q ∷ [])) e (Contains-push v.more q))
        ]),
        (λ h. elim h [
          | inl s ↦ IsSeen-set seen' q p l ((v.marked p).1 (inl s))
          | inr m ↦ elim (Contains-push_cases v.more q p m) [
            | inl k ↦ IsSeen-set seen' q p l ((v.marked p).1 (inr k))
            | inr e ↦ subst (IsSeen after) e (IsSeen-set_same seen' q l)
          ]
        ]),
      );
      all = All-push (IsSeen after) ns q (All-weaker (IsSeen seen') (IsSeen after) (λ p s. IsSeen-set seen' q p l s) ns v.all) (IsSeen-set_same seen' q l);
      as_long = length-set seen' q true ∙ v.as_long;
      balance = omega (arith, fewer, longer, v.balance);
    }

-- what the search from start keeps: the places found are reached, and the first `done` of them have their neighbours seen
pub record IsUnderway (rows : List (List ℕ)) (start : ℕ) (found : List ℕ) (before seen : List Bool) (done : ℕ) : Type 0 where
  pub some : done ≤ length found
  pub within : All (λ p. p < length rows) found
  pub has_start : Contains found start
  pub fresh : (p : ℕ) → Contains found p → (IsSeen before p → ⊥) × IsReached (HasNeighbour rows) start p
  pub marked : (p : ℕ) → IsSeen seen p ↔ (IsSeen before p ⊎ Contains found p)
  pub worked : (k b : ℕ) → k < done → HasNeighbour rows (slice_index found k) b → IsSeen seen b
  pub as_long : length seen ≡ length before

pub IsUnderway-start : (rows : List (List ℕ)) (start : ℕ) (before : List Bool) → start < length rows → length before ≡ length rows → (IsSeen before start → ⊥) → IsUnderway rows start (start ∷ []) before (set before start true) 0
IsUnderway-start rows start before l e n =
    let lt : start < length before = omega arith in
    record {
      some = omega arith;
      within = All-push (λ p. p < length rows) [] start (λ k d m. absurd (omega arith)) l;
      has_start = Contains-push [] start;
      fresh = λ p h. elim (Contains-push_cases [] start p h) [
        | inl k ↦ absurd (not_in_nil p k)
        | inr f ↦ ((λ s. n (subst (IsSeen before) (sym f) s)), subst (IsReached (HasNeighbour rows) start) f (IsReached-refl (HasNeighbour rows) start))
      ];
      marked = λ p. (
        (λ h. elim (IsSeen-set_cases before start p lt h) [ inl k ↦ inl k | inr f ↦ inr (subst (Contains (start ∷ [])) f (Contains-push [] start)) ]),
        (λ h. elim h [
          | inl s ↦ IsSeen-set before start p lt s
          | inr c ↦ elim (Contains-push_cases [] start p c) [
            | inl k ↦ absurd (not_in_nil p k)
            | inr f ↦ subst (IsSeen (set before start true)) f (IsSeen-set_same before start lt)
          ]
        ]),
      );
      worked = λ k b m h. absurd (omega arith);
      as_long = length-set before start true;
    }

pub IsUnderway-more : (rows : List (List ℕ)) (start : ℕ) (found found' : List ℕ) (before seen seen' : List Bool) (done : ℕ) → AreMutual rows → done < length found → IsUnderway rows start found before seen done → Visits (row rows (slice_index found done)) found found' seen seen' → IsUnderway rows start found' before seen' (done + 1)
IsUnderway-more rows start found found' before seen seen' done both l u v =
    let Step = HasNeighbour rows in
    let here = slice_index found done in
    let is_found : Contains found here = Contains-get_or found done 0 l in
    let long : length found' ≡ length (found ++ v.more) = ap length v.grown in
    let grows : (p : ℕ) → Contains found p → Contains found' p = λ p h. rw v.grown (Contains-append_left found v.more p h) in
    let parts : (p : ℕ) → Contains found' p → Contains found p ⊎ Contains v.more p = λ p h. Contains-append_cases found v.more p (rw v.grown at h) in
    record {
      some = omega (arith, long, length-append found v.more, l);
      within = rw v.grown (All-append (λ p. p < length rows) found v.more u.within (λ k d m. both.inside here (get_or v.more k d) (v.fresh (get_or v.more k d) (Contains-get_or v.more k d m)).0));
      has_start = grows start u.has_start;
      fresh = λ p h. elim (parts p h) [
        | inl k ↦ u.fresh p k
        | inr k ↦ ((λ s. (v.fresh p k).1 ((u.marked p).1 (inl s))), IsReached-push Step start here p (u.fresh here is_found).1 (v.fresh p k).0)
      ];
      marked = λ p. (
        (λ h. elim ((v.marked p).0 h) [
          | inl s ↦ elim ((u.marked p).0 s) [ inl b ↦ inl b | inr k ↦ inr (grows p k) ]
          | inr m ↦ inr (rw v.grown (Contains-append_right found v.more p m))
        ]),
        (λ h. elim h [
          | inl b ↦ (v.marked p).1 (inl ((u.marked p).1 (inl b)))
          | inr c ↦ elim (parts p c) [
            | inl k ↦ (v.marked p).1 (inl ((u.marked p).1 (inr k)))
            | inr m ↦ (v.marked p).1 (inr m)
          ]
        ]),
      );
      worked = λ k b m h.
          let lt : k < length found = omega arith in
          let same : slice_index found' k ≡ slice_index found k = ap (λ (t : List ℕ). get_or t k 0) v.grown ∙ get_or_append_left found v.more 0 k lt in
          let h2 : HasNeighbour rows (slice_index found k) b = subst (λ (t : ℕ). HasNeighbour rows t b) same h in
          elim (cases_lt k done) [
            | inl below ↦ (v.marked b).1 (inl (u.worked k b below h2))
            | inr above ↦
                let e : k ≡ done = omega arith in
                All-contains (IsSeen seen') (row rows here) b v.all (subst (λ (t : ℕ). HasNeighbour rows (slice_index found t) b) e h2)
          ];
      as_long = v.as_long ∙ u.as_long;
    }

-- at the end of the search
pub IsUnderway-all : (rows : List (List ℕ)) (start : ℕ) (found : List ℕ) (before seen : List Bool) → AreMutual rows → IsClosed rows before → IsUnderway rows start found before seen (length found) → FindsReached rows start found before seen
IsUnderway-all rows start found before seen both closed u =
    let Step = HasNeighbour rows in
    let keeps : (x y : ℕ) → Contains found x → Step x y → Contains found y = λ x y h s.
    let at_x : slice_index found h.0 ≡ x = get_or_default found h.0 0 x h.1 ∙ h.2 in
    let y_seen = u.worked h.0 y h.1 (subst (λ (t : ℕ). HasNeighbour rows t y) (sym at_x) s) in
    elim ((u.marked y).0 y_seen) [
      | inl b ↦ absurd ((u.fresh x h).0 (closed.steps y x b (both.back x y s)))
      | inr c ↦ c
    ] in
    let back : (p : ℕ) → IsReached Step start p → Contains found p = λ p r. IsReached-keeps Step (Contains found) keeps start p r u.has_start in
    record {
      exact = λ p. ((λ h. (u.fresh p h).1), (λ r. back p r));
      marked = λ p. (
        (λ h. elim ((u.marked p).0 h) [ inl b ↦ inl b | inr c ↦ inr (u.fresh p c).1 ]),
        (λ h. elim h [ inl b ↦ (u.marked p).1 (inl b) | inr r ↦ (u.marked p).1 (inr (back p r)) ]),
      );
      as_long = u.as_long;
    }

-- a place where each place found so far has its mark, and the others are as before
pub record AreMarked (old new places : List ℕ) (component : ℕ) : Type 0 where
  pub marked : (p : ℕ) → Contains places p → slice_index new p ≡ component
  pub others : (p : ℕ) → (Contains places p → ⊥) → slice_index new p ≡ slice_index old p

pub AreMarked-none : (old : List ℕ) (component : ℕ) → AreMarked old old [] component
AreMarked-none old component = record { marked = λ p h. absurd (not_in_nil p h); others = λ p h. refl }

pub AreMarked-push : (old new places : List ℕ) (component q : ℕ) → q < length new → AreMarked old new places component → AreMarked old (set new q component) (places ++ q ∷ []) component
AreMarked-push old new places component q l m =
    let there : slice_index (set new q component) q ≡ component = get_or-set_same new q component 0 l in
    record {
      marked = λ p h. elim (cases_eq p q) [
        | inl e ↦ subst (λ (t : ℕ). slice_index (set new q component) t ≡ component) (sym e) there
        | inr n ↦ get_or-set_other new q p component 0 n ∙ elim (Contains-push_cases places q p h) [ inl k ↦ m.marked p k | inr f ↦ absurd (n (sym f)) ]
      ];
      others = λ p h.
          let n : p ≡ q → ⊥ = λ e. h (subst (Contains (places ++ q ∷ [])) (sym e) (Contains-push places q)) in
          get_or-set_other new q p component 0 n ∙ m.others p (λ k. h (Contains-append_left places (q ∷ []) p k));
    }
