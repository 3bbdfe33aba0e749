-- Lists of places that are closed under the pairs are parts of a problem.
use Rattle.std.proofs.Common.{◌≡◌, ◌≢◌, ◌==◌, ℕ, ◌<◌, refl, sym, ap, subst, ◌∙◌, arith, inl, inr, Bool, true, false, List, length, get_or, slice_index, eq-eqb}
use Rattle.std.proofs.lemmas.Bool.Decides.{nat_tests}
use Rattle.std.proofs.lemmas.List.{get_or_default}
use Rattle.std.proofs.lemmas.List.Elements.{Contains-get_or, All-contains, All-filter, All-contains_itself, filter_passes}
use Rattle.std.proofs.lemmas.List.Sums.{position_or_len_is}
use Rattle.std.proofs.lemmas.List.Kept.{AllPairs-from_increasing}
use Rattle.std.proofs.lemmas.Bool.{cases_order}
use Rattle.std.specs.List.{Contains, filter}
use Rattle.std.specs.List.Sorted.{IsStrictlyIncreasing}
use Rattle.ofit_num.specs.Problem.{Problem}
use Rattle.ofit_order.specs.Form.{pairs_among}
use Rattle.ofit_order.proofs.DoubleCounting.{has, Contains-from_has, has-from_Contains}
use Rattle.ofit_fit.specs.Part.{position_among, pairs_by_position, part_of}
use Rattle.ofit_fit.proofs.Places.{HasPlace, IsDistinct}
use Rattle.ofit_fit.proofs.Parts.{IsPart}
use Rattle.ofit_num.proofs.Members.{in_map, from_map, Contains-filter}

pub place_from_contains : (xs : List ℕ) (x : ℕ) → Contains xs x → HasPlace (slice_index xs) (length xs) x
place_from_contains xs x h = (h.0, h.1, get_or_default xs h.0 0 x h.1 ∙ h.2)

pub contains_from_place : (xs : List ℕ) (x : ℕ) → HasPlace (slice_index xs) (length xs) x → Contains xs x
contains_from_place xs x h = (h.0, h.1, get_or_default xs h.0 x 0 h.1 ∙ h.2)

pub contains_from_filter : {X : Type 0} (p : X → Bool) (xs : List X) (x : X) → Contains (filter p xs) x → Contains xs x × (p x ≡ true)
contains_from_filter p xs x h = (
  All-contains (Contains xs) (filter p xs) x (All-filter p (Contains xs) xs (All-contains_itself xs)) h,
  All-contains (λ z. p z ≡ true) (filter p xs) x (filter_passes p xs) h,
)

-- the list has places of the problem, each once, and with a place each that a pair joins with it
pub record IsClosed (s : Problem) (members : List ℕ) : Type 0 where
  pub distinct : IsDistinct (slice_index members) (length members)
  pub inside : (p : ℕ) → Contains members p → p < s.count
  pub up : (a b : ℕ) → Contains s.pairs (a, b) → Contains members a → Contains members b
  pub down : (a b : ℕ) → Contains s.pairs (a, b) → Contains members b → Contains members a

pub distinct_from_increasing : (xs : List ℕ) → IsStrictlyIncreasing xs → IsDistinct (slice_index xs) (length xs)
distinct_from_increasing xs up i j l m e = elim (cases_order i j) [
  | inl same ↦ same
  | inr o ↦ elim o [
    | inl below ↦ absurd (omega (arith, e, AllPairs-from_increasing xs up i j 0 below m))
    | inr above ↦ absurd (omega (arith, e, AllPairs-from_increasing xs up j i 0 above l))
  ]
]

differs : (a b : ℕ) → a ≢ b → (a == b) ≡ false
differs a b e = grind (arith, nat_tests)

-- the position of the place at an index is the index
pub position_at : (members : List ℕ) → IsDistinct (slice_index members) (length members) → (g : ℕ) → (x : HasPlace (slice_index members) (length members) g) → position_among members g ≡ x.0
position_at members distinct g x = position_or_len_is (λ m. m == g) members x.0 0 (omega (arith, x.1))
    (λ k l. differs _ _ (λ e. absurd (omega (arith, l, distinct k x.0 (omega (arith, l, x.1)) x.1 (e ∙ sym x.2)))))
    (λ l. eq-eqb _ _ x.2)

module _ (pairs : List (ℕ × ℕ)) (members : List ℕ) (distinct : IsDistinct (slice_index members) (length members))
    (up : (a b : ℕ) → Contains pairs (a, b) → Contains members a → Contains members b) where
  -- a pair by positions is a pair of the places at them
  pub by_position_kept : (i j : ℕ) → Contains (pairs_by_position pairs members) (i, j) → (i < length members) × (j < length members) × Contains pairs (slice_index members i, slice_index members j)
  by_position_kept i j h =
      let found : (e : ℕ × ℕ) × Contains (pairs_among pairs members) e × (_) = from_map (λ (e : ℕ × ℕ). (position_among members e.0, position_among members e.1)) (pairs_among pairs members) (i, j) h in
      let e : ℕ × ℕ = found.0 in
      let parts : Contains pairs e × (has members e.0 ≡ true) = contains_from_filter (λ (p : ℕ × ℕ). has members p.0) pairs e found.1 in
      let low : Contains members e.0 = Contains-from_has members e.0 parts.1 in
      let x : HasPlace (slice_index members) (length members) e.0 = place_from_contains members e.0 low in
      let y : HasPlace (slice_index members) (length members) e.1 = place_from_contains members e.1 (up e.0 e.1 parts.0 low) in
      let first : i ≡ x.0 = ap (λ (p : ℕ × ℕ). p.0) (sym found.2) ∙ position_at members distinct e.0 x in
      let second : j ≡ y.0 = ap (λ (p : ℕ × ℕ). p.1) (sym found.2) ∙ position_at members distinct e.1 y in
      let at_i : slice_index members i ≡ e.0 = ap (slice_index members) first ∙ x.2 in
      let at_j : slice_index members j ≡ e.1 = ap (slice_index members) second ∙ y.2 in (
        omega (arith, first, x.1),
        omega (arith, second, y.1),
        subst (λ (a : ℕ). Contains pairs (a, slice_index members j)) (sym at_i) (subst (λ (b : ℕ). Contains pairs (e.0, b)) (sym at_j) parts.0),
      )

  pub by_position_all : (i j : ℕ) → i < length members → j < length members → Contains pairs (slice_index members i, slice_index members j) → Contains (pairs_by_position pairs members) (i, j)
  by_position_all i j l m h =
      let e : ℕ × ℕ = (slice_index members i, slice_index members j) in
      let kept : Contains (pairs_among pairs members) e = Contains-filter (λ (p : ℕ × ℕ). has members p.0) pairs e h (has-from_Contains members e.0 (contains_from_place members e.0 (i, l, refl))) in
      let put : Contains (pairs_by_position pairs members) (position_among members e.0, position_among members e.1) =
      in_map (λ (e : ℕ × ℕ). (position_among members e.0, position_among members e.1)) (pairs_among pairs members) e kept in
      subst (λ (a : ℕ). Contains (pairs_by_position pairs members) (a, j)) (position_at members distinct e.0 (i, l, refl))
      (subst (λ (b : ℕ). Contains (pairs_by_position pairs members) (position_among members e.0, b)) (position_at members distinct e.1 (j, m, refl)) put)

pub part_of-IsPart : (s : Problem) (members : List ℕ) → IsClosed s members → IsPart s (part_of s members) (slice_index members)
part_of-IsPart s members closed = record {
  inside = λ i l. closed.inside _ (contains_from_place members _ (i, l, refl));
  distinct = closed.distinct;
  rows = λ i l. refl;
  bounds = λ i l. refl;
  places = λ k d l.
      let e : ℕ × ℕ = get_or (pairs_by_position s.pairs members) k d in
      let h : _ = by_position_kept s.pairs members closed.distinct closed.up e.0 e.1 (Contains-get_or (pairs_by_position s.pairs members) k d l) in
      (h.0, h.1);
  kept = λ i j h. (by_position_kept s.pairs members closed.distinct closed.up i j h).2;
  all = λ i j l m h. by_position_all s.pairs members closed.distinct closed.up i j l m h;
  up = λ a b h x. place_from_contains members b (closed.up a b h (contains_from_place members a x));
  down = λ a b h x. place_from_contains members a (closed.down a b h (contains_from_place members b x));
}
