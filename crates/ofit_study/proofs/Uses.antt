-- Whether a pair names a group.
use Rattle.std.proofs.Common.{◌≡◌, ℕ, zero, suc, ◌<◌, ◌⊎◌, inl, inr, List, [], ◌∷◌, refl, sym, ap, ◌∙◌, subst, arith, length, get_or, Bool, true, false, cond, true≢false}
use Rattle.std.proofs.lemmas.Bool.Decides.{nat_tests}
use Rattle.std.proofs.lemmas.List.{get_or-map}
use Rattle.std.proofs.lemmas.List.Elements.{Contains-get_or, Contains-append_right}
use Rattle.std.proofs.lemmas.List.FromFn.{length-range_with_len, get_or-range_with_len}
use Rattle.std.proofs.lemmas.Option.{get_or_from_slice_get, slice_get_within, slice_get-get_or}
use Rattle.std.specs.Prelude.{Contains, filter, nat_eq, not, IsTrue, ◌||◌, ◌==◌, slice_get, Some, ◌↔◌}
use Rattle.std.specs.List.{range_with_len}
use Rattle.ofit_num.specs.declared.row.Row.{Row}
use Rattle.ofit_study.specs.Edited.{IsInUse}
use Rattle.ofit_study.specs.Ends.{has_end, indexes_at}
use Rattle.ofit_study.specs.Kept.{named}
use Rattle.ofit_study.specs.Study.{Study, IsValid, groups_of, names_of, places_of, place_among, rows_named}
use Rattle.ofit_study.proofs.Pushing.{name_at-get, place_among-at}
use Rattle.ofit_study.proofs.GroupNames.{group_names-distinct}
use Rattle.ofit_study.proofs.Relating.{Contains-map, named_list, placed}

filter_found : {X : Type 0} (p : X → Bool) (xs : List X) → 0 < length (filter p xs) → (x : X) × Contains xs x × (p x ≡ true)
filter_found p [] h = absurd (omega arith)
filter_found {X} p (x ∷ xs) h = go (p x) refl (filter_found p xs) where
  go : (t : Bool) → p x ≡ t → (0 < length (filter p xs) → (y : X) × Contains xs y × (p y ≡ true)) → (y : X) × Contains (x ∷ xs) y × (p y ≡ true)
  go true e rest = (x, (0, omega arith, refl), e)
  go false e rest =
      let r = rest (subst (λ (n : ℕ). 0 < n) (ap (λ (t : Bool). length (cond t (x ∷ filter p xs) (filter p xs))) e) h) in
      (r.0, Contains-append_right (x ∷ []) xs r.0 r.1, r.2)

filter_some : {X : Type 0} (p : X → Bool) (xs : List X) (x : X) → Contains xs x → p x ≡ true → 0 < length (filter p xs)
filter_some p [] x c e = absurd (omega (arith, c.1))
filter_some p (y ∷ xs) x (zero, l, same) e =
    subst (λ (n : ℕ). 0 < n) (ap (λ (t : Bool). length (cond t (y ∷ filter p xs) (filter p xs))) (sym (ap p same ∙ e))) (omega arith)
filter_some p (y ∷ xs) x (suc k, l, same) e = go (p y) refl (filter_some p xs x (k, omega (arith, l), same) e) where
  go : (t : Bool) → p y ≡ t → 0 < length (filter p xs) → 0 < length (filter p (y ∷ xs))
  go true f rest = subst (λ (n : ℕ). 0 < n) (ap (λ (t : Bool). length (cond t (y ∷ filter p xs) (filter p xs))) (sym f)) (omega arith)
  go false f rest = subst (λ (n : ℕ). 0 < n) (ap (λ (t : Bool). length (cond t (y ∷ filter p xs) (filter p xs))) (sym f)) rest

either : (a b : Bool) → (a || b) ≡ true → (a ≡ true) ⊎ (b ≡ true)
either true b e = inl refl
either false b e = inr e

one_of : (a b : Bool) → (a ≡ true) ⊎ (b ≡ true) → (a || b) ≡ true
one_of true b e = refl
one_of false b (inl e) = absurd (true≢false (sym e))
one_of false b (inr e) = e

pub same_nat : (a b : ℕ) → nat_eq a b ≡ true → a ≡ b
same_nat a b e = grind (arith, nat_tests)

nat_same : (a b : ℕ) → a ≡ b → nat_eq a b ≡ true
nat_same a b e = grind (arith, nat_tests)

nonzero : (n : ℕ) → (n == 0) ≡ false → 0 < n
nonzero n g = grind (arith, nat_tests)

zero_only : (n : ℕ) → (n == 0) ≡ true → 0 < n → ⊥
zero_only n g l = grind (arith, nat_tests)

module _ (s : Study) (v : IsValid s) (name : List ℕ) (place : ℕ) (at : slice_get (names_of s) place ≡ Some name) where
  -- a pair with an end at the place names the group
  named_there : 0 < length (indexes_at (places_of s) place) → (e : List ℕ × List ℕ) × Contains s.pairs e × ((e.0 ≡ name) ⊎ (e.1 ≡ name))
  named_there h =
      let i = filter_found (λ i. has_end place (get_or (places_of s) i (0, 0))) (range_with_len 0 (length (places_of s))) h in
      let below : i.1.0 < length (places_of s) = omega (arith, i.1.1, length-range_with_len 0 (length (places_of s))) in
      let is : i.1.0 ≡ i.0 = omega (arith, get_or-range_with_len 0 (length (places_of s)) i.1.0 i.0 below, i.1.2) in
      let inside : i.0 < length (places_of s) = omega arith in
      let e : ℕ × ℕ = get_or (places_of s) i.0 (0, 0) in
      let stands : Contains s.pairs (named (names_of s) e) =
      subst (λ (t : List (List ℕ × List ℕ)). Contains t (named (names_of s) e)) (named_list (names_of s) s.pairs v.known) (Contains-map (named (names_of s)) (places_of s) e (Contains-get_or (places_of s) i.0 (0, 0) inside)) in
      (named (names_of s) e, stands, side e (either (nat_eq e.0 place) (nat_eq e.1 place) i.2))
    where
      side : (e : ℕ × ℕ) → (nat_eq e.0 place ≡ true) ⊎ (nat_eq e.1 place ≡ true) → ((named (names_of s) e).0 ≡ name) ⊎ ((named (names_of s) e).1 ≡ name)
      side e (inl h) = inl (name_at-get (names_of s) e.0 name (subst (λ (p : ℕ). slice_get (names_of s) p ≡ Some name) (sym (same_nat e.0 place h)) at))
      side e (inr h) = inr (name_at-get (names_of s) e.1 name (subst (λ (p : ℕ). slice_get (names_of s) p ≡ Some name) (sym (same_nat e.1 place h)) at))

  its_place : (n : List ℕ) → n ≡ name → place_among (names_of s) n ≡ place
  its_place n e =
      ap (place_among (names_of s)) (e ∙ sym (name_at-get (names_of s) place name at))
      ∙ place_among-at (names_of s) (group_names-distinct s.rows) place (slice_get_within (names_of s) place name at)

  there_named : (e : List ℕ × List ℕ) → Contains s.pairs e → (e.0 ≡ name) ⊎ (e.1 ≡ name) → 0 < length (indexes_at (places_of s) place)
  there_named e c names =
      let i = Contains-map (placed (names_of s)) s.pairs e c in
      let is : get_or (places_of s) i.0 (0, 0) ≡ placed (names_of s) e = get_or_from_slice_get (places_of s) i.0 (placed (names_of s) e) (0, 0) (found i) in
      let among : Contains (range_with_len 0 (length (places_of s))) i.0 = (i.0, omega (arith, i.1, length-range_with_len 0 (length (places_of s))), omega (arith, get_or-range_with_len 0 (length (places_of s)) i.0 i.0 i.1)) in
      filter_some (λ i. has_end place (get_or (places_of s) i (0, 0))) (range_with_len 0 (length (places_of s))) i.0 among
      (ap (has_end place) is ∙ one_of (nat_eq (place_among (names_of s) e.0) place) (nat_eq (place_among (names_of s) e.1) place) (side names))
    where
      found : (i : Contains (places_of s) (placed (names_of s) e)) → slice_get (places_of s) i.0 ≡ Some (placed (names_of s) e)
      found i = slice_get-get_or (places_of s) i.0 (placed (names_of s) e) i.1 ∙ ap Some i.2

      side : (e.0 ≡ name) ⊎ (e.1 ≡ name) → (nat_eq (place_among (names_of s) e.0) place ≡ true) ⊎ (nat_eq (place_among (names_of s) e.1) place ≡ true)
      side (inl h) = inl (nat_same (place_among (names_of s) e.0) place (its_place e.0 h))
      side (inr h) = inr (nat_same (place_among (names_of s) e.1) place (its_place e.1 h))

  rows_are : (rows : List Row) → slice_get (groups_of s) place ≡ Some rows → length rows ≡ length (rows_named s.rows name)
  rows_are rows e =
      ap length (sym (get_or_from_slice_get (groups_of s) place rows [] e)
      ∙ get_or-map (rows_named s.rows) (names_of s) place name [] (slice_get_within (names_of s) place name at)
      ∙ ap (rows_named s.rows) (get_or_from_slice_get (names_of s) place name name at))

  -- one row, and the test of the pairs
  pub use_told : (rows : List Row) → slice_get (groups_of s) place ≡ Some rows → length rows ≡ 1 → (indexes : List ℕ) → indexes ≡ indexes_at (places_of s) place → (none : Bool) → none ≡ (length indexes == 0) → IsTrue (not none) ↔ IsInUse s name
  use_told rows e one indexes are none is = (to none is, λ h. from none is h) where
    to : (t : Bool) → t ≡ (length indexes == 0) → IsTrue (not t) → IsInUse s name
    to true f h = absurd (true≢false (sym h))
    to false f h =
        let some : 0 < length (indexes_at (places_of s) place) = omega (arith, ap length are, nonzero (length indexes) (sym f)) in
        let p = named_there some in
        record { only = sym (rows_are rows e) ∙ one; pair = p.0; stands = p.1; names = p.2 }

    from : (t : Bool) → t ≡ (length indexes == 0) → IsInUse s name → IsTrue (not t)
    from false f h = refl
    from true f h = absurd (zero_only (length indexes) (sym f) (subst (λ (n : ℕ). 0 < n) (sym (ap length are)) (there_named h.pair h.stands h.names)))

  pub not_only : (rows : List Row) → slice_get (groups_of s) place ≡ Some rows → (length rows ≡ 1 → ⊥) → IsInUse s name → ⊥
  not_only rows e more h = more (rows_are rows e ∙ h.only)
