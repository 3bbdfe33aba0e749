-- An umbrella is a rooted tree with the umbrella's pairs.
use Rattle.std.proofs.Common.{◌≡◌, ℕ, zero, suc, ◌+◌, ◌-◌, ◌<◌, ◌≤◌, inl, inr, List, [], ◌∷◌, ◌++◌, map, length, Option, Some, None, refl, ap, ◌∙◌, arith}
use Rattle.std.proofs.lemmas.Bool.{cases_order}
use Rattle.std.proofs.lemmas.Bool.Decides.{nat_tests}
use Rattle.std.proofs.lemmas.List.{map-append}
use Rattle.std.proofs.lemmas.List.FromFn.{length-map-range_with_len, get_or-map-range_with_len}
use Rattle.std.proofs.lemmas.Option.{slice_get_within, slice_get-get_or}
use Rattle.std.specs.Prelude.{slice_get}
use Rattle.std.specs.List.{range_with_len}
use Rattle.ofit_tree.specs.declared.direction.Direction.TheVariants.{RootGreatest}
use Rattle.ofit_tree.specs.Tree.{pairs_from, tree_pairs, IsParent, Climbs, IsRootedTree}
use Rattle.ofit_sheet.specs.Unimodal.{umbrella_pairs}
use Rattle.ofit_sheet.proofs.PeakedParts.{range_split}
use Rattle.ofit_unimodal.specs.Umbrella.{umbrella_parent, umbrella_parents}

low : (k i : ℕ) → i < k → umbrella_parent k i ≡ Some (suc i)
low k i l = grind (arith, nat_tests)

top : (k i : ℕ) → i ≡ k → umbrella_parent k i ≡ None
top k i e = grind (arith, nat_tests)

high : (k i : ℕ) → k < i → umbrella_parent k i ≡ Some (i - 1)
high k i l = grind (arith, nat_tests)

module _ (k n : ℕ) (inside : k < n) where
  abbrev parents : List (Option ℕ)
  parents = umbrella_parents k n

  long : length parents ≡ n
  long = length-map-range_with_len (umbrella_parent k) 0 n

  at : (g : ℕ) → g < n → slice_get parents g ≡ Some (umbrella_parent k g)
  at g l = slice_get-get_or parents g None (omega (arith, long, l)) ∙ ap Some (get_or-map-range_with_len (umbrella_parent k) 0 n g g None l (omega arith))

  same_parent : (g : ℕ) (o : Option ℕ) → slice_get parents g ≡ Some o → (g < n) × (umbrella_parent k g ≡ o)
  same_parent g o e =
      let l : g < n = omega (arith, slice_get_within parents g o e, long) in
      (l, let f = at g l in cc)

  root_only : (g : ℕ) → slice_get parents g ≡ Some None → g ≡ k
  root_only g e =
      let s = same_parent g None e in
      elim (cases_order g k) [
        | inl same ↦ same
        | inr (inl less) ↦ absurd (let f = low k g less in let h = s.1 in cc)
        | inr (inr more) ↦ absurd (let f = high k g more in let h = s.1 in cc)
      ]

  parent_inside : (g p : ℕ) → IsParent parents g p → p < length parents
  parent_inside g p e =
      let s = same_parent g (Some p) e in
      elim (cases_order g k) [
        | inl same ↦ absurd (let f = top k g same in let h = s.1 in cc)
        | inr (inl less) ↦ let q : suc g ≡ p = (let f = low k g less in let h = s.1 in cc) in omega (arith, long, less, inside, q)
        | inr (inr more) ↦ let q : g - 1 ≡ p = (let f = high k g more in let h = s.1 in cc) in omega (arith, long, s.0, q)
      ]

  climb_up : (m g : ℕ) → g + m ≡ k → Climbs parents m g k
  climb_up zero g e = omega (arith, e)
  climb_up (suc m) g e = (suc g, at g (omega (arith, e, inside)) ∙ ap Some (low k g (omega (arith, e))), climb_up m (suc g) (omega (arith, e)))

  climb_down : (m g : ℕ) → g ≡ k + m → g < n → Climbs parents m g k
  climb_down zero g e l = omega (arith, e)
  climb_down (suc m) g e l = (g - 1, at g l ∙ ap Some (high k g (omega (arith, e))), climb_down m (g - 1) (omega (arith, e)) (omega (arith, l)))

  climbs : (g : ℕ) → g < length parents → (m : ℕ) × Climbs parents m g k
  climbs g l = elim (cases_order g k) [
    | inl same ↦ (0, same)
    | inr (inl less) ↦ (k - g, climb_up (k - g) g (omega (arith, less)))
    | inr (inr more) ↦ (g - k, climb_down (g - k) g (omega (arith, more)) (omega (arith, l, long)))
  ]

  pub rooted : IsRootedTree parents
  rooted = record {
    root = k;
    at_root = at k inside ∙ ap Some (top k k refl);
    only = root_only;
    places = parent_inside;
    reached = climbs;
  }

-- the pairs of the places before the peak, and of those behind it
pairs_low : (k c m : ℕ) → c + m ≤ k → pairs_from RootGreatest c (map (umbrella_parent k) (range_with_len c m)) ≡ map (λ i. (i, i + 1)) (range_with_len c m)
pairs_low k c zero l = refl
pairs_low k c (suc m) l =
    let next : suc c ≡ c + 1 = omega arith in
    let rest : pairs_from RootGreatest (suc c) (map (umbrella_parent k) (range_with_len (c + 1) m)) ≡ map (λ i. (i, i + 1)) (range_with_len (c + 1) m) =
    ap (λ (j : ℕ). pairs_from RootGreatest j (map (umbrella_parent k) (range_with_len (c + 1) m))) next ∙ pairs_low k (c + 1) m (omega (arith, l)) in
    ap (λ (o : Option ℕ). pairs_from RootGreatest c (o ∷ map (umbrella_parent k) (range_with_len (c + 1) m))) (low k c (omega (arith, l)))
    ∙ ap (λ (j : ℕ). (c, j) ∷ pairs_from RootGreatest (suc c) (map (umbrella_parent k) (range_with_len (c + 1) m))) next ∙ ap (λ (t : List (ℕ × ℕ)). (c, c + 1) ∷ t) rest

pairs_high : (k c i m : ℕ) → c ≡ i + 1 → k < c → pairs_from RootGreatest c (map (umbrella_parent k) (range_with_len c m)) ≡ map (λ j. (j + 1, j)) (range_with_len i m)
pairs_high k c i zero e l = refl
pairs_high k c i (suc m) e l =
    let next : suc c ≡ c + 1 = omega arith in
    let back : c - 1 ≡ i = omega (arith, e) in
    let rest : pairs_from RootGreatest (suc c) (map (umbrella_parent k) (range_with_len (c + 1) m)) ≡ map (λ j. (j + 1, j)) (range_with_len (i + 1) m) =
    ap (λ (j : ℕ). pairs_from RootGreatest j (map (umbrella_parent k) (range_with_len (c + 1) m))) next ∙ pairs_high k (c + 1) (i + 1) m (omega (arith, e)) (omega (arith, l)) in
    ap (λ (o : Option ℕ). pairs_from RootGreatest c (o ∷ map (umbrella_parent k) (range_with_len (c + 1) m))) (high k c l)
    ∙ ap (λ (j : ℕ). (c, j) ∷ pairs_from RootGreatest (suc c) (map (umbrella_parent k) (range_with_len (c + 1) m))) back
    ∙ ap (λ (j : ℕ). (j, i) ∷ pairs_from RootGreatest (suc c) (map (umbrella_parent k) (range_with_len (c + 1) m))) e ∙ ap (λ (t : List (ℕ × ℕ)). (i + 1, i) ∷ t) rest

pairs_append : (xs ys : List (Option ℕ)) (c d : ℕ) → d ≡ c + length xs → pairs_from RootGreatest c (xs ++ ys) ≡ pairs_from RootGreatest c xs ++ pairs_from RootGreatest d ys
pairs_append [] ys c d e = let same : c ≡ d = omega (arith, e) in ap (λ (j : ℕ). pairs_from RootGreatest j ys) same
pairs_append (None ∷ xs) ys c d e = pairs_append xs ys (suc c) d (omega (arith, e))
pairs_append (Some p ∷ xs) ys c d e = ap (λ (t : List (ℕ × ℕ)). (c, p) ∷ t) (pairs_append xs ys (suc c) d (omega (arith, e)))

pub same_pairs : (k n : ℕ) → k < n → tree_pairs RootGreatest (umbrella_parents k n) ≡ umbrella_pairs k n
same_pairs k n l =
    let f = umbrella_parent k in
    let m = n - 1 - k in
    let parts : umbrella_parents k n ≡ map f (range_with_len 0 k) ++ map f (range_with_len k (suc m)) =
    ap (map f) (range_split k (suc m) n 0 k (omega (arith, l)) (omega arith)) ∙ map-append f (range_with_len 0 k) (range_with_len k (suc m)) in
    let behind : pairs_from RootGreatest k (map f (range_with_len k (suc m))) ≡ map (λ j. (j + 1, j)) (range_with_len k m) =
    ap (λ (o : Option ℕ). pairs_from RootGreatest k (o ∷ map f (range_with_len (k + 1) m))) (top k k refl)
    ∙ ap (λ (j : ℕ). pairs_from RootGreatest j (map f (range_with_len (k + 1) m))) (let next : suc k ≡ k + 1 = omega arith in next) ∙ pairs_high k (k + 1) k m refl (omega arith) in
    ap (pairs_from RootGreatest 0) parts
    ∙ pairs_append (map f (range_with_len 0 k)) (map f (range_with_len k (suc m))) 0 k (omega (arith, length-map-range_with_len f 0 k))
    ∙ ap (λ (t : List (ℕ × ℕ)). t ++ pairs_from RootGreatest k (map f (range_with_len k (suc m)))) (pairs_low k 0 k (omega arith))
    ∙ ap (λ (t : List (ℕ × ℕ)). map (λ i. (i, i + 1)) (range_with_len 0 k) ++ t) behind
