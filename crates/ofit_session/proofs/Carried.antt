-- A component without a touched group is a part of the study before the edit.
use Rattle.std.proofs.Common.{◌≡◌, ℕ, ◌<◌, inl, inr, List, [], sym, ap, ap₂, ◌∙◌, subst, arith, length, slice_index}
use Rattle.std.proofs.lemmas.List.{length-map, get_or-map}
use Rattle.std.proofs.lemmas.List.Elements.{All-contains, Contains-get_or}
use Rattle.std.proofs.lemmas.Option.{unwrap_or-slice_get, slice_get-get_or}
use Rattle.std.specs.Prelude.{Contains, slice_get, Some}
use Rattle.ofit_num.specs.declared.row.Row.{Row}
use Rattle.ofit_num.specs.Fit.{LeastBestValues}
use Rattle.ofit_num.specs.Fraction.{Fraction}
use Rattle.ofit_study.specs.declared.settings.Settings.{Settings}
use Rattle.ofit_study.specs.Study.{Study, IsValid, groups_of, names_of, places_of, problem_stated, meaning_of, rows_named}
use Rattle.ofit_study.specs.Kept.{named, name_at}
use Rattle.ofit_study.proofs.Editing.{named_known}
use Rattle.ofit_study.proofs.GroupNames.{group_names-distinct}
use Rattle.ofit_study.proofs.Places.{group_count}
use Rattle.ofit_study.proofs.Pushing.{place_among-at}
use Rattle.ofit_study.proofs.Relating.{IsKnown, placed, named_back, Contains-map, Contains-from_map}
use Rattle.ofit_study.proofs.Stating.{name_at-place, groups_filled, pairs_have_places}
use Rattle.ofit_study.proofs.Touching.{IsSameApart}
use Rattle.ofit_fit.specs.Part.{part_of, values_at, value_at}
use Rattle.ofit_fit.proofs.Closed.{IsClosed, part_of-IsPart, place_from_contains}
use Rattle.ofit_fit.proofs.Parts.{IsPart}
use Rattle.ofit_fit.proofs.Picked.{Picks, values_down, values_at-picks}
use Rattle.ofit_fit.proofs.Places.{HasPlace}
use Rattle.ofit_span.proofs.StatedLosses.{stated_scaling}

-- the rows of a place are those of its name
rows_at : (s : Study) (g : ℕ) → g < length (names_of s) → (problem_stated s).rows g ≡ rows_named s.rows (name_at (names_of s) g)
rows_at s g l =
    unwrap_or-slice_get (groups_of s) g [] ∙ get_or-map (rows_named s.rows) (names_of s) g [] [] l

name_in : (s : Study) (g : ℕ) → g < length (names_of s) → Contains (names_of s) (name_at (names_of s) g)
name_in s g l = Contains-get_or (names_of s) g [] l

-- a place's name is its own
pub same_place : (s : Study) (i j : ℕ) → i < length (names_of s) → j < length (names_of s) → name_at (names_of s) i ≡ name_at (names_of s) j → i ≡ j
same_place s i j l k e =
    sym (place_among-at (names_of s) (group_names-distinct s.rows) i l)
    ∙ ap (λ (n : List ℕ). (placed (names_of s) (n, n)).0) e
    ∙ place_among-at (names_of s) (group_names-distinct s.rows) j k

-- pairs by names and by places
pair_names : (x : Study) → IsValid x → (a b : ℕ) → Contains (places_of x) (a, b) → Contains x.pairs (name_at (names_of x) a, name_at (names_of x) b)
pair_names x v a b c =
    let e = Contains-from_map (placed (names_of x)) x.pairs (a, b) c in
    let known : IsKnown (names_of x) e.0 = All-contains (IsKnown (names_of x)) x.pairs e.0 v.known e.1 in
    subst (Contains x.pairs) (sym (named_back (names_of x) e.0 known) ∙ ap (named (names_of x)) e.2) e.1

pair_places : (x : Study) (e : List ℕ × List ℕ) → Contains x.pairs e → Contains (places_of x) (placed (names_of x) e)
pair_places x e c = Contains-map (placed (names_of x)) x.pairs e c

place_back : (x : Study) (g : ℕ) → g < length (names_of x) → (placed (names_of x) (name_at (names_of x) g, name_at (names_of x) g)).0 ≡ g
place_back x g l = place_among-at (names_of x) (group_names-distinct x.rows) g l

-- the members of an edited study none of which has a touched name
module _ (names : List (List ℕ)) (s t : Study) (vs : IsValid s) (vt : IsValid t) (same : IsSameApart names s t) (members : List ℕ) (closed : IsClosed (problem_stated t) members)
    (out : (g : ℕ) → Contains members g → Contains names (name_at (names_of t) g) → ⊥) where
  -- the name of the i-th member
  abbrev member_name : ℕ → List ℕ
  member_name i = name_at (names_of t) (slice_index members i)

  -- and its place before the edit
  abbrev pub old_place : ℕ → ℕ
  old_place i = (placed (names_of s) (member_name i, member_name i)).0

  member : (i : ℕ) → i < length members → Contains members (slice_index members i)
  member i l = Contains-get_or members i 0 l

  below : (i : ℕ) → i < length members → slice_index members i < length (names_of t)
  below i l = omega (arith, closed.inside (slice_index members i) (member i l), group_count t)

  untouched : (i : ℕ) → i < length members → Contains names (member_name i) → ⊥
  untouched i l c = out (slice_index members i) (member i l) c

  -- each member was a group before the edit
  was_group : (i : ℕ) → i < length members → Contains (names_of s) (member_name i)
  was_group i l =
      let g = slice_index members i in
      let filled : 0 < length (rows_named t.rows (member_name i)) =
      subst (λ (r : List Row). 0 < length r) (get_or-map (rows_named t.rows) (names_of t) g [] [] (below i l)) (groups_filled t g [] (omega (arith, below i l, group_count t))) in
      named_known s.rows (member_name i) (subst (λ (r : List Row). 0 < length r) (same.rows (member_name i) (untouched i l)) filled)

  old_inside : (i : ℕ) → i < length members → old_place i < length (names_of s)
  old_inside i l = (name_at-place (names_of s) (member_name i) (was_group i l)).0

  old_name : (i : ℕ) → i < length members → name_at (names_of s) (old_place i) ≡ member_name i
  old_name i l = (name_at-place (names_of s) (member_name i) (was_group i l)).1

  distinct : (i j : ℕ) → i < length members → j < length members → old_place i ≡ old_place j → i ≡ j
  distinct i j l k e = closed.distinct i j l k (same_place t (slice_index members i) (slice_index members j) (below i l) (below j k) names_same) where
    names_same : name_at (names_of t) (slice_index members i) ≡ name_at (names_of t) (slice_index members j)
    names_same = sym (old_name i l) ∙ ap (name_at (names_of s)) e ∙ old_name j k

  -- the pairs that they have
  kept : (i j : ℕ) → i < length members → j < length members → Contains (places_of t) (slice_index members i, slice_index members j) → Contains (places_of s) (old_place i, old_place j)
  kept i j l k c =
      pair_places s (member_name i, member_name j)
      ((same.pairs (member_name i, member_name j) (inl (untouched i l))).0 (pair_names t vt (slice_index members i) (slice_index members j) c))

  all : (i j : ℕ) → i < length members → j < length members → Contains (places_of s) (old_place i, old_place j) → Contains (places_of t) (slice_index members i, slice_index members j)
  all i j l k c =
      let names_are : (name_at (names_of s) (old_place i), name_at (names_of s) (old_place j)) ≡ (member_name i, member_name j) = ap₂ (λ (a b : List ℕ). (a, b)) (old_name i l) (old_name j k) in
      let here : Contains t.pairs (member_name i, member_name j) =
      (same.pairs (member_name i, member_name j) (inl (untouched i l))).1 (subst (Contains s.pairs) names_are (pair_names s vs (old_place i) (old_place j) c)) in
      subst (Contains (places_of t)) (ap₂ (λ (a b : ℕ). (a, b)) (place_back t (slice_index members i) (below i l)) (place_back t (slice_index members j) (below j k))) (pair_places t (member_name i, member_name j) here)

  -- a group of the component was at the place of its name
  back : (b : ℕ) → b < length (names_of s) → Contains (names_of t) (name_at (names_of s) b) → Contains members (placed (names_of t) (name_at (names_of s) b, name_at (names_of s) b)).0 → HasPlace old_place (length members) b
  back b l known c =
      let n = name_at (names_of s) b in
      let at = place_from_contains members (placed (names_of t) (n, n)).0 c in (
        at.0,
        at.1,
        ap (λ (g : ℕ). (placed (names_of s) (name_at (names_of t) g, name_at (names_of t) g)).0) at.2
            ∙ ap (λ (m : List ℕ). (placed (names_of s) (m, m)).0) (name_at-place (names_of t) n known).1
            ∙ place_back s b l,
      )

  in_places : (a b : ℕ) → Contains (places_of s) (a, b) → (a < length (names_of s)) × (b < length (names_of s))
  in_places a b c =
      let h : (a < length (groups_of s)) × (b < length (groups_of s)) = All-contains (λ (e : ℕ × ℕ). (e.0 < length (groups_of s)) × (e.1 < length (groups_of s))) (places_of s) (a, b) (pairs_have_places s vs) c in
      (omega (arith, h.0, group_count s), omega (arith, h.1, group_count s))

  up : (a b : ℕ) → Contains (places_of s) (a, b) → HasPlace old_place (length members) a → HasPlace old_place (length members) b
  up a b c (i, l, e) =
      let low_is : name_at (names_of s) a ≡ member_name i = ap (name_at (names_of s)) (sym e) ∙ old_name i l in
      let n = name_at (names_of s) b in
      let old : Contains s.pairs (member_name i, n) = subst (λ (m : List ℕ). Contains s.pairs (m, n)) low_is (pair_names s vs a b c) in
      let new : Contains t.pairs (member_name i, n) = (same.pairs (member_name i, n) (inl (untouched i l))).1 old in
      let known : IsKnown (names_of t) (member_name i, n) = All-contains (IsKnown (names_of t)) t.pairs (member_name i, n) vt.known new in
      let step : Contains (places_of t) (slice_index members i, (placed (names_of t) (n, n)).0) =
      subst (λ (g : ℕ). Contains (places_of t) (g, (placed (names_of t) (n, n)).0)) (place_back t (slice_index members i) (below i l)) (pair_places t (member_name i, n) new) in
      back b (in_places a b c).1 known.1 (closed.up (slice_index members i) (placed (names_of t) (n, n)).0 step (member i l))

  down : (a b : ℕ) → Contains (places_of s) (a, b) → HasPlace old_place (length members) b → HasPlace old_place (length members) a
  down a b c (i, l, e) =
      let high_is : name_at (names_of s) b ≡ member_name i = ap (name_at (names_of s)) (sym e) ∙ old_name i l in
      let n = name_at (names_of s) a in
      let old : Contains s.pairs (n, member_name i) = subst (λ (m : List ℕ). Contains s.pairs (n, m)) high_is (pair_names s vs a b c) in
      let new : Contains t.pairs (n, member_name i) = (same.pairs (n, member_name i) (inr (untouched i l))).1 old in
      let known : IsKnown (names_of t) (n, member_name i) = All-contains (IsKnown (names_of t)) t.pairs (n, member_name i) vt.known new in
      let step : Contains (places_of t) ((placed (names_of t) (n, n)).0, slice_index members i) =
      subst (λ (g : ℕ). Contains (places_of t) ((placed (names_of t) (n, n)).0, g)) (place_back t (slice_index members i) (below i l)) (pair_places t (n, member_name i) new) in
      back a (in_places a b c).0 known.0 (closed.down (placed (names_of t) (n, n)).0 (slice_index members i) step (member i l))

  rows_same : (i : ℕ) → i < length members → (problem_stated t).rows (slice_index members i) ≡ (problem_stated s).rows (old_place i)
  rows_same i l =
      rows_at t (slice_index members i) (below i l)
      ∙ same.rows (member_name i) (untouched i l)
      ∙ ap (rows_named s.rows) (sym (old_name i l))
      ∙ sym (rows_at s (old_place i) (old_inside i l))

  own : IsPart (problem_stated t) (part_of (problem_stated t) members) (slice_index members)
  own = part_of-IsPart (problem_stated t) members closed

  -- the part of the edited study is one of the study before
  pub part_before : IsPart (problem_stated s) (part_of (problem_stated t) members) old_place
  part_before = record {
    inside = λ i l. omega (arith, old_inside i l, group_count s);
    distinct = distinct;
    rows = rows_same;
    bounds = λ i l. ap (λ (x : Settings). record { lo = x.lo; hi = x.hi }) same.settings;
    places = own.places;
    kept = λ i j c. let h = HasPlaces-within i j c in kept i j h.0 h.1 (own.kept i j c);
    all = λ i j l k c. own.all i j l k (all i j l k c);
    up = up;
    down = down;
  } where
    HasPlaces-within : (i j : ℕ) → Contains (part_of (problem_stated t) members).pairs (i, j) → (i < length members) × (j < length members)
    HasPlaces-within i j c = All-contains (λ (e : ℕ × ℕ). (e.0 < length members) × (e.1 < length members)) (part_of (problem_stated t) members).pairs (i, j) own.places c

  -- so its carried values stay least best
  pub part_carried : (values own_values : List Fraction) → LeastBestValues (meaning_of s.settings.loss) (problem_stated s) values
      → ((g p : ℕ) (n : List ℕ) → slice_get (names_of t) g ≡ Some n → slice_get (names_of s) p ≡ Some n → slice_get own_values g ≡ slice_get values p) → length own_values ≡ length (names_of t)
      → LeastBestValues (meaning_of t.settings.loss) (part_of (problem_stated t) members) (values_at own_values members)
  part_carried values own_values low carried count =
      subst (λ (x : Settings). LeastBestValues (meaning_of x.loss) (part_of (problem_stated t) members) (values_at own_values members)) (sym same.settings)
      (values_down (meaning_of s.settings.loss) (problem_stated s) (part_of (problem_stated t) members) old_place part_before (stated_scaling s vs s.settings.loss) values (values_at own_values members) picks low)
    where
      named_at : (x : Study) (g : ℕ) → g < length (names_of x) → slice_get (names_of x) g ≡ Some (name_at (names_of x) g)
      named_at x g l = slice_get-get_or (names_of x) g [] l

      picks : Picks values (values_at own_values members) old_place (length members)
      picks = record {
        count = length-map members (value_at own_values);
        same = λ i l.
            (values_at-picks own_values members (λ j k. omega (arith, below j k, count))).same i l
            ∙ carried (slice_index members i) (old_place i) (member_name i) (named_at t (slice_index members i) (below i l))
            (named_at s (old_place i) (old_inside i l) ∙ ap Some (old_name i l));
      }
