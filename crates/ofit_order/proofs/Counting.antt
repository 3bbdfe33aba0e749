-- Components numbered below a place.
use Rattle.std.proofs.Common.{◌≡◌, ℕ, ◌+◌, ◌<◌, ◌≤◌, ◌↔◌, inl, inr, Bool, false, List, [], ◌∷◌, ◌++◌, length, get_or, replicate, slice_index, refl, sym, subst, ap, ◌∙◌, arith}
use Rattle.std.specs.List.{Contains}
use Rattle.std.specs.List.Sorted.{IsStrictlyIncreasing}
use Rattle.std.proofs.lemmas.Bool.{cases_lt, false≢true}
use Rattle.std.proofs.lemmas.List.{length_push, get_or_append_left, get_or_push, get_or-replicate, get_or_past, length-replicate}
use Rattle.std.proofs.lemmas.List.Elements.{Contains-get_or, Contains-append_left, Contains-push, Contains-push_cases}
use Rattle.ofit_order.specs.Connection.{IsReached}
use Rattle.ofit_order.specs.Rows.{HasNeighbour, AreMutual}
use Rattle.ofit_order.specs.Search.{IsSeen, IsClosed, FindsReached, IsLeastReached, IsNumbering}
use Rattle.ofit_order.proofs.Walks.{IsReached-refl, IsReached-push, IsReached-keeps, IsReached-back}
use Rattle.ofit_order.proofs.Seeing.{AreMarked}

-- the seen places are numbered, and all places below s are seen
pub record IsNumberedBelow (rows : List (List ℕ)) (s : ℕ) (components : List ℕ) (count : ℕ) (seen : List Bool) : Type 0 where
  pub least : List ℕ
  pub rising : IsStrictlyIncreasing least
  pub exact : (p : ℕ) → Contains least p ↔ ((p < s) × IsLeastReached rows p)
  pub counted : count ≡ length least
  pub few : count ≤ s
  pub as_long : length components ≡ length rows
  pub seen_long : length seen ≡ length rows
  pub closed : IsClosed rows seen
  pub passed : (p : ℕ) → p < s → IsSeen seen p
  pub numbered : (p : ℕ) → IsSeen seen p → slice_index components p < count
  pub reached : (p : ℕ) → IsSeen seen p → IsReached (HasNeighbour rows) (slice_index least (slice_index components p)) p

pub IsStrictlyIncreasing-push : (xs : List ℕ) (y : ℕ) → IsStrictlyIncreasing xs → ((x : ℕ) → Contains xs x → x < y) → IsStrictlyIncreasing (xs ++ y ∷ [])
IsStrictlyIncreasing-push xs y up below = λ k l.
    let long = length_push xs y in
    let lt : k < length xs = omega arith in
    let here : slice_index (xs ++ y ∷ []) k ≡ slice_index xs k = get_or_append_left xs (y ∷ []) 0 k lt in
    elim (cases_lt (k + 1) (length xs)) [
      | inl more ↦
          let next : slice_index (xs ++ y ∷ []) (k + 1) ≡ slice_index xs (k + 1) = get_or_append_left xs (y ∷ []) 0 (k + 1) more in
          let was = up k more in
          omega (arith, here, next, was)
      | inr last ↦
          let end : length xs ≡ k + 1 = omega arith in
          let next : slice_index (xs ++ y ∷ []) (k + 1) ≡ y = get_or_push xs y 0 (k + 1) end in
          let was = below (slice_index xs k) (Contains-get_or xs k 0 lt) in
          omega (arith, here, next, was)
    ]

-- what is reached from a place that is not seen is not seen
seen_back : (rows : List (List ℕ)) (seen : List Bool) → AreMutual rows → IsClosed rows seen → (a b : ℕ) → IsReached (HasNeighbour rows) a b → IsSeen seen b → IsSeen seen a
seen_back rows seen both closed a b r =
    IsReached-keeps (HasNeighbour rows) (IsSeen seen) (λ x y h s. closed.steps x y h s) b a (IsReached-back (HasNeighbour rows) (HasNeighbour rows) both.back a b r)

pub IsNumberedBelow-none : (rows : List (List ℕ)) (components : List ℕ) (seen : List Bool) → length components ≡ length rows → length seen ≡ length rows → ((p : ℕ) → IsSeen seen p → ⊥) → IsNumberedBelow rows 0 components 0 seen
IsNumberedBelow-none rows components seen e f none = record {
  least = [];
  rising = λ k l. absurd (omega arith);
  exact = λ p. ((λ h. let l : h.0 < 0 = h.1 in absurd (omega arith)), (λ h. absurd (omega (arith, h.0))));
  counted = refl;
  few = omega arith;
  as_long = e;
  seen_long = f;
  closed = record { steps = λ a b h s. absurd (none a h) };
  passed = λ p l. absurd (omega arith);
  numbered = λ p h. absurd (none p h);
  reached = λ p h. absurd (none p h);
}

-- the next place is seen already
pub IsNumberedBelow-seen : (rows : List (List ℕ)) (s : ℕ) (components : List ℕ) (count : ℕ) (seen : List Bool) → AreMutual rows → IsNumberedBelow rows s components count seen → IsSeen seen s → IsNumberedBelow rows (s + 1) components count seen
IsNumberedBelow-seen rows s components count seen both n here =
    let Step = HasNeighbour rows in
    let head = slice_index n.least (slice_index components s) in
    let number = n.numbered s here in
    let counted = n.counted in
    let few = n.few in
    let within : slice_index components s < length n.least = omega arith in
    let head_below = ((n.exact head).0 (Contains-get_or n.least (slice_index components s) 0 within)).0 in
    let to_head = IsReached-back Step Step both.back head s (n.reached s here) in
    record {
      least = n.least;
      rising = n.rising;
      exact = λ p. (
        (λ h. let k = (n.exact p).0 h in (omega (arith, k.0), k.1)),
        (λ h. elim (cases_lt p s) [
          | inl below ↦ (n.exact p).1 (below, h.1)
          | inr above ↦
              let l = h.0 in
              let e : p ≡ s = omega arith in
              let least_s : IsLeastReached rows s = subst (IsLeastReached rows) e h.1 in
              absurd (omega (arith, least_s.least head to_head, head_below))
        ]),
      );
      counted = n.counted;
      few = omega arith;
      as_long = n.as_long;
      seen_long = n.seen_long;
      closed = n.closed;
      passed = λ p l. elim (cases_lt p s) [
        | inl below ↦ n.passed p below
        | inr above ↦ let e : s ≡ p = omega arith in subst (IsSeen seen) e here
      ];
      numbered = n.numbered;
      reached = n.reached;
    }

-- the next place is not seen yet: what it reaches is one more component
pub IsNumberedBelow-new : (rows : List (List ℕ)) (s : ℕ) (components components' : List ℕ) (count : ℕ) (seen seen' : List Bool) (found : List ℕ) → AreMutual rows → s < length rows → IsNumberedBelow rows s components count seen → (IsSeen seen s → ⊥) → FindsReached rows s found seen seen' → AreMarked components components' found count → length components' ≡ length components → IsNumberedBelow rows (s + 1) components' (count + 1) seen'
IsNumberedBelow-new rows s components components' count seen seen' found both inside n unseen f m same =
    let Step = HasNeighbour rows in
    let grown = n.least ++ s ∷ [] in
    let long = length_push n.least s in
    let counted = n.counted in
    let few = n.few in
    let apart : (p : ℕ) → IsSeen seen p → Contains found p → ⊥ = λ p h c. unseen (seen_back rows seen both n.closed s p ((f.exact p).0 c) h) in
    let kept : (p : ℕ) → IsSeen seen p → slice_index components' p ≡ slice_index components p = λ p h. m.others p (apart p h) in
    let given : (p : ℕ) → IsReached Step s p → slice_index components' p ≡ count = λ p r. m.marked p ((f.exact p).1 r) in
    let is_least : IsLeastReached rows s = record {
      inside = inside;
      least = λ q r. elim (cases_lt q s) [
        | inl below ↦ absurd (unseen (seen_back rows seen both n.closed s q r (n.passed q below)))
        | inr above ↦ above
      ];
    } in
    record {
      least = grown;
      rising = IsStrictlyIncreasing-push n.least s n.rising (λ x h. ((n.exact x).0 h).0);
      exact = λ p. (
        (λ h. elim (Contains-push_cases n.least s p h) [
          | inl k ↦ let was = (n.exact p).0 k in (omega (arith, was.0), was.1)
          | inr e ↦ (omega (arith, e), subst (IsLeastReached rows) e is_least)
        ]),
        (λ h. elim (cases_lt p s) [
          | inl below ↦ Contains-append_left n.least (s ∷ []) p ((n.exact p).1 (below, h.1))
          | inr above ↦
              let l = h.0 in
              let e : s ≡ p = omega arith in
              subst (Contains grown) e (Contains-push n.least s)
        ]),
      );
      counted = omega arith;
      few = omega arith;
      as_long = same ∙ n.as_long;
      seen_long = f.as_long ∙ n.seen_long;
      closed = record {
        steps = λ a b h t. elim ((f.marked a).0 h) [
          | inl was ↦ (f.marked b).1 (inl (n.closed.steps a b was t))
          | inr r ↦ (f.marked b).1 (inr (IsReached-push Step s a b r t))
        ];
      };
      passed = λ p l. elim (cases_lt p s) [
        | inl below ↦ (f.marked p).1 (inl (n.passed p below))
        | inr above ↦ let e : s ≡ p = omega arith in (f.marked p).1 (inr (subst (IsReached Step s) e (IsReached-refl Step s)))
      ];
      numbered = λ p h. elim ((f.marked p).0 h) [
        | inl was ↦ omega (arith, kept p was, n.numbered p was)
        | inr r ↦ omega (arith, given p r)
      ];
      reached = λ p h. elim ((f.marked p).0 h) [
        | inl was ↦
            let number = n.numbered p was in
            let within : slice_index components p < length n.least = omega arith in
            let same_head : slice_index grown (slice_index components' p) ≡ slice_index n.least (slice_index components p) =
            ap (slice_index grown) (kept p was) ∙ get_or_append_left n.least (s ∷ []) 0 (slice_index components p) within in
            subst (λ (t : ℕ). IsReached Step t p) (sym same_head) (n.reached p was)
        | inr r ↦
            let new_head : slice_index grown (slice_index components' p) ≡ s = ap (slice_index grown) (given p r) ∙ get_or_push n.least s 0 count (sym counted) in
            subst (λ (t : ℕ). IsReached Step t p) (sym new_head) r
      ];
    }

pub IsNumberedBelow-all : (rows : List (List ℕ)) (components : List ℕ) (count : ℕ) (seen : List Bool) → IsNumberedBelow rows (length rows) components count seen → IsNumbering rows components count
IsNumberedBelow-all rows components count seen n = record {
  least = n.least;
  rising = n.rising;
  exact = λ p. ((λ h. ((n.exact p).0 h).1), (λ h. (n.exact p).1 (h.inside, h)));
  counted = n.counted;
  few = n.few;
  as_long = n.as_long;
  numbered = λ p l. n.numbered p (n.passed p l);
  reached = λ p l. n.reached p (n.passed p l);
}

pub none_seen : (n p : ℕ) → IsSeen (replicate n false) p → ⊥
none_seen n p h =
    let is_false : get_or (replicate n false) p false ≡ false = elim (cases_lt p n) [
      | inl below ↦ get_or-replicate n p false false below
      | inr above ↦ get_or_past (replicate n false) p false (rw (length-replicate n false) above)
    ] in
    false≢true (sym is_false ∙ h)

pub reached_inside : (rows : List (List ℕ)) → AreMutual rows → (a b : ℕ) → a < length rows → IsReached (HasNeighbour rows) a b → b < length rows
reached_inside rows both a b l r = IsReached-keeps (HasNeighbour rows) (λ (t : ℕ). t < length rows) (λ x y h s. both.inside x y s) a b r l
