-- The pairs between the members of a component, gathered member by member, and the component's part.
use Rattle.std.proofs.Common.{◌≡◌, ℕ, ◌+◌, ◌<◌, ◌≤◌, ◌⊎◌, refl, sym, ap, subst, ◌∙◌, arith, inl, inr, List, [], ◌∷◌, ◌++◌, length, get_or, map, slice_index, take, ◌↔◌, length-append}
use Rattle.std.proofs.lemmas.Bool.{cases_order}
use Rattle.std.proofs.lemmas.List.{get_or-map, length-map, get_or_default, take_all, length-take-le}
use Rattle.std.proofs.lemmas.List.Kept.{AllPairs-from_increasing}
use Rattle.std.proofs.lemmas.List.Elements.{Contains-get_or, Contains-append_left, Contains-push, Contains-push_cases, All-nil, All-cons, All-head, All-tail}
use Rattle.std.proofs.lemmas.Option.{unwrap_or-slice_get}
use Rattle.std.specs.Prelude.{All, slice_index_or}
use Rattle.std.specs.List.{Contains}
use Rattle.std.specs.List.Sorted.{IsStrictlyIncreasing}
use Rattle.ofit_num.specs.declared.row.Row.{Row}
use Rattle.ofit_num.specs.Problem.{Problem}
use Rattle.ofit_num.specs.Unbounded.{no_bounds}
use Rattle.ofit_num.specs.Meaning.{Meaning}
use Rattle.ofit_num.specs.Fraction.{Fraction}
use Rattle.ofit_num.specs.Fit.{LeastBestValues}
use Rattle.ofit_num.specs.Law.{HasScaling}
use Rattle.ofit_num.proofs.Lists.{All-slice_get}
use Rattle.ofit_partition.specs.Piece.{partition_problem}
use Rattle.ofit_fit.specs.Part.{part_of}
use Rattle.ofit_fit.specs.Links.{IsRun, AreAdded, ArePairsBetween}
use Rattle.ofit_fit.proofs.Places.{IsDistinct}
use Rattle.ofit_fit.proofs.Parts.{IsPart, part_scaling}
use Rattle.ofit_fit.proofs.Closed.{IsClosed, by_position_kept, by_position_all, part_of-IsPart}
use Rattle.ofit_fit.proofs.ChainParts.{values_back}
use Rattle.ofit_fit.proofs.Linking.{take_from, take_to, take_cases, take_grows}
use Rattle.ofit_fit.proofs.Taken.{rows_at, found}

pub added_none : (members : List ℕ) (above : List (ℕ × ℕ)) (position : ℕ) (before : List (ℕ × ℕ)) → AreAdded members (take 0 above) position before before
added_none members above position before = record {
  count = omega arith;
  old = λ e h. h;
  added = λ j l h. absurd (omega (arith, (take_from above 0 (h.0, slice_index members j) h.1).1));
  only = λ i j h. inl h;
}

-- one pair more
module _ (members : List ℕ) (above : List (ℕ × ℕ)) (position : ℕ) (before after : List (ℕ × ℕ)) (i q : ℕ) (distinct : IsDistinct (slice_index members) (length members))
    (l : i < length above) (m : q < length members) (at : slice_index members q ≡ (get_or above i (0, 0)).1) (h : AreAdded members (take i above) position before after) where
  here : Contains (take (i + 1) above) ((get_or above i (0, 0)).0, slice_index members q)
  here = subst (λ (g : ℕ). Contains (take (i + 1) above) ((get_or above i (0, 0)).0, g)) (sym at) (take_to above (i + 1) (get_or above i (0, 0)) i (omega arith) l (get_or_default above i (get_or above i (0, 0)) (0, 0) l))

  pub added_more : AreAdded members (take (i + 1) above) position before (after ++ (position, q) ∷ [])
  added_more = record {
    count = omega (arith, length-append after ((position, q) ∷ []), h.count, length-take-le i above (omega arith), length-take-le (i + 1) above (omega arith));
    old = λ e k. Contains-append_left after ((position, q) ∷ []) e (h.old e k);
    added = λ j b k. choose j b k.0 (take_cases above i (k.0, slice_index members j) k.1);
    only = λ a b k. elim (Contains-push_cases after (position, q) (a, b) k) [
      | inl x ↦ elim (h.only a b x) [ inl y ↦ inl y | inr y ↦ inr (y.0, y.1, (y.2.0, take_grows above i (y.2.0, slice_index members b) y.2.1)) ]
      | inr e ↦
          let first : position ≡ a = ap (λ (p : ℕ × ℕ). p.0) e in
          let second : q ≡ b = ap (λ (p : ℕ × ℕ). p.1) e in
          inr (sym first, omega (arith, m, second), ((get_or above i (0, 0)).0, subst (λ (j : ℕ). Contains (take (i + 1) above) ((get_or above i (0, 0)).0, slice_index members j)) second here))
    ];
  } where
    choose : (j : ℕ) → j < length members → (a : ℕ) → (get_or above i (a, slice_index members j) ≡ (a, slice_index members j)) ⊎ Contains (take i above) (a, slice_index members j) → Contains (after ++ (position, q) ∷ []) (position, j)
    choose j b a (inl e) =
        let same : j ≡ q = distinct j q b m (ap (λ (p : ℕ × ℕ). p.1) (sym e ∙ get_or_default above i (a, slice_index members j) (0, 0) l) ∙ sym at) in
        subst (λ (k : ℕ). Contains (after ++ (position, q) ∷ []) (position, k)) (sym same) (Contains-push after (position, q))
    choose j b a (inr x) = Contains-append_left after ((position, q) ∷ []) (position, j) (h.added j b (a, x))

pub added_all : (members : List ℕ) (above : List (ℕ × ℕ)) (position : ℕ) (before after : List (ℕ × ℕ)) (i : ℕ) → length above ≤ i → AreAdded members (take i above) position before after → AreAdded members above position before after
added_all members above position before after i l h = subst (λ (xs : List (ℕ × ℕ)). AreAdded members xs position before after) (take_all i above l) h

-- the pairs that lead up from the first n members, which are at most those before some index
pub record AreGathered (pairs : List (ℕ × ℕ)) (members : List ℕ) (n : ℕ) (found : List (ℕ × ℕ)) : Type 0 where
  pub kept : (i j : ℕ) → Contains found (i, j) → (i < length members) × (j < length members) × Contains pairs (slice_index members i, slice_index members j)
  pub all : (i j : ℕ) → i < n → i < length members → j < length members → Contains pairs (slice_index members i, slice_index members j) → Contains found (i, j)
  pub top : ℕ
  pub few : length found ≤ top
  pub inside : top ≤ length pairs
  pub passed : (k : ℕ) (d : ℕ × ℕ) (j : ℕ) → k < top → n ≤ j → j < length members → (slice_index_or pairs k d).0 < slice_index members j

pub gathered_none : (pairs : List (ℕ × ℕ)) (members : List ℕ) → AreGathered pairs members 0 []
gathered_none pairs members = record {
  kept = λ i j h. absurd (omega (arith, h.1));
  all = λ i j l. absurd (omega (arith, l));
  top = 0;
  few = omega arith;
  inside = omega arith;
  passed = λ k d j l. absurd (omega (arith, l));
}

module _ (pairs : List (ℕ × ℕ)) (members : List ℕ) (above : List (ℕ × ℕ)) (n : ℕ) (before after : List (ℕ × ℕ)) (rising : IsStrictlyIncreasing members) (l : n < length members)
    (exact : (e : ℕ × ℕ) → Contains above e ↔ (Contains pairs e × (e.0 ≡ slice_index members n))) (run : IsRun pairs (slice_index members n) (length above))
    (added : AreAdded members above n before after) (h : AreGathered pairs members n before) where
  starts : h.top ≤ run.start
  starts = elim (cases_order h.top run.start) [
    | inl e ↦ omega (arith, e)
    | inr o ↦ elim o [
      | inl b ↦ omega (arith, b)
      | inr b ↦ absurd (omega (arith, b, h.passed run.start (0, 0) n b (omega arith) l, run.after run.start (0, 0) (omega arith) (omega (arith, b, h.inside))))
    ]
  ]

  pub gathered_more : AreGathered pairs members (n + 1) after
  gathered_more = record {
    kept = λ i j k. elim (added.only i j k) [
      | inl x ↦ h.kept i j x
      | inr x ↦
          let pair : Contains pairs (x.2.0, slice_index members j) × (x.2.0 ≡ slice_index members n) = (exact (x.2.0, slice_index members j)).0 x.2.1 in
          (omega (arith, x.0, l), x.1, subst (λ (a : ℕ). Contains pairs (a, slice_index members j)) (pair.1 ∙ ap (slice_index members) (sym x.0)) pair.0)
    ];
    all = λ i j b c d k. elim (cases_order i n) [
      | inl e ↦ subst (λ (a : ℕ). Contains after (a, j)) (sym e) (added.added j d (slice_index members i, (exact (slice_index members i, slice_index members j)).1 (k, ap (slice_index members) e)))
      | inr o ↦ elim o [ inl x ↦ added.old (i, j) (h.all i j x c d k) | inr x ↦ absurd (omega (arith, b, x)) ]
    ];
    top = run.start + length above;
    few = omega (arith, added.count, h.few, starts);
    inside = run.inside;
    passed = λ k d j b c e. omega (arith, run.before k d b, AllPairs-from_increasing members rising n j 0 (omega (arith, c)) e);
  }

pub gathered_all : (pairs : List (ℕ × ℕ)) (members : List ℕ) (n : ℕ) (found : List (ℕ × ℕ)) → length members ≤ n → AreGathered pairs members n found → ArePairsBetween pairs members found
gathered_all pairs members n found l h = record {
  kept = h.kept;
  all = λ i j b c k. h.all i j (omega (arith, b, l)) b c k;
  few = omega (arith, h.few, h.inside);
}

-- what each of some groups has, if each of all has it
pub taken_each : (P : List Row → Type 0) (groups : List (List Row)) (places : List ℕ) → All P groups → All (λ g. g < length groups) places → All P (map (rows_at groups) places)
taken_each P groups [] all inside = All-nil P
taken_each P groups (p ∷ ps) all inside = All-cons P (rows_at groups p) (map (rows_at groups) ps)
    (All-slice_get P groups p (rows_at groups p) all (found groups p (All-head (λ g. g < length groups) p ps inside))) (taken_each P groups ps all (All-tail (λ g. g < length groups) p ps inside))

-- the groups of the members, with the pairs between them, are the part
module _ (s : Problem) (free : (g : ℕ) → s.bounds g ≡ no_bounds g) (pairs : List (ℕ × ℕ)) (same_pairs : (e : ℕ × ℕ) → Contains pairs e ↔ Contains s.pairs e) (members : List ℕ) (closed : IsClosed s members)
    (between : List (ℕ × ℕ)) (are : ArePairsBetween pairs members between) where
  ends : (i j : ℕ) → Contains between (i, j) → (i < length (map s.rows members)) × (j < length (map s.rows members))
  ends i j h = let k : _ = are.kept i j h in (omega (arith, k.0, length-map members s.rows), omega (arith, k.1, length-map members s.rows))

  pub between_places : All (λ e. (e.0 < length (map s.rows members)) × (e.1 < length (map s.rows members))) between
  between_places k d l = ends (slice_index_or between k d).0 (slice_index_or between k d).1 (Contains-get_or between k d l)

  between_part : IsPart (part_of s members) (partition_problem (map s.rows members) between) (λ i. i)
  between_part =
      let n : length (map s.rows members) ≡ length members = length-map members s.rows in
      record {
        inside = λ i l. omega (arith, l, n);
        distinct = λ i j l m e. e;
        rows = λ i l. unwrap_or-slice_get (map s.rows members) i [] ∙ get_or-map s.rows members i 0 [] (omega (arith, l, n));
        bounds = λ i l. sym (free (slice_index members i));
        places = between_places;
        kept = λ i j h. let k : _ = are.kept i j h in by_position_all s.pairs members closed.distinct closed.up i j k.0 k.1 ((same_pairs _).0 k.2);
        all = λ i j l m h. are.all i j (omega (arith, l, n)) (omega (arith, m, n)) ((same_pairs _).1 (by_position_kept s.pairs members closed.distinct closed.up i j h).2);
        up = λ a b h x. (b, omega (arith, n, (by_position_kept s.pairs members closed.distinct closed.up a b h).1), refl);
        down = λ a b h x. (a, omega (arith, n, (by_position_kept s.pairs members closed.distinct closed.up a b h).0), refl);
      }

  -- What is least best for them is so for the part.
  pub fitted_between : (m : Meaning) → HasScaling m s → (values : List Fraction) → LeastBestValues m (partition_problem (map s.rows members) between) values → LeastBestValues m (part_of s members) values
  fitted_between m law values low =
      let n : length (map s.rows members) ≡ length members = length-map members s.rows in
      values_back m (part_of s members) (partition_problem (map s.rows members) between) (λ i. i) (part_of-IsPart s members closed).places
      (part_scaling s (part_of s members) (slice_index members) (part_of-IsPart s members closed) m law) between_part (λ g l. (g, omega (arith, l, n), refl))
      values values (low.count ∙ n) (record { count = low.count; same = λ i l. refl }) low
