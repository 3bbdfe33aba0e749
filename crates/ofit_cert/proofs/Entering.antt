-- The entries of a list of values: each value at its place.
use Rattle.std.proofs.Common.{◌≡◌, ℕ, zero, suc, ◌+◌, ◌<◌, List, [], ◌∷◌, length, refl, sym, ap, subst, ◌∙◌, arith, Bool, true, false, cond, nat_eq, get_or, map}
use Rattle.std.proofs.lemmas.Bool.Decides.{nat_tests}
use Rattle.std.proofs.lemmas.List.{length-map, get_or-map}
use Rattle.std.proofs.lemmas.List.Elements.{All-map}
use Rattle.std.proofs.lemmas.List.FromFn.{length-enumerate_from, get_or-enumerate_from}
use Rattle.std.specs.List.{enumerate_from}
use Rattle.std.specs.Prelude.{All, AllPairs, slice_get, Some}
use Rattle.ofit_num.specs.Fraction.{Fraction}
use Rattle.ofit_num.specs.Sheet.{Entry, entry_value}
use Rattle.ofit_sheet.specs.Parts.{entry_of}

abbrev pub entries : List Fraction → List Entry
entries fs = map entry_of (enumerate_from 0 fs)

values_from : (n : ℕ) (fs : List Fraction) → map (λ e. e.value) (map entry_of (enumerate_from n fs)) ≡ fs
values_from n [] = refl
values_from n (f ∷ fs) = ap (λ (gs : List Fraction). f ∷ gs) (values_from (n + 1) fs)

pub entries-values : (fs : List Fraction) → map (λ e. e.value) (entries fs) ≡ fs
entries-values fs = values_from 0 fs

same_place : (n m : ℕ) → n ≡ m → nat_eq n m ≡ true
same_place n m e = grind (arith, nat_tests)

other_place : (n m : ℕ) → n < m → nat_eq n m ≡ false
other_place n m l = grind (arith, nat_tests)

value_from : (n : ℕ) (fs : List Fraction) (g m : ℕ) → n + g ≡ m → entry_value (map entry_of (enumerate_from n fs)) m ≡ slice_get fs g
value_from n [] g m e = refl
value_from n (f ∷ fs) zero m e = ap (λ (b : Bool). cond b (Some f) (entry_value (map entry_of (enumerate_from (n + 1) fs)) m)) (same_place n m (omega arith))
value_from n (f ∷ fs) (suc g) m e =
    ap (λ (b : Bool). cond b (Some f) (entry_value (map entry_of (enumerate_from (n + 1) fs)) m)) (other_place n m (omega arith)) ∙ value_from (n + 1) fs g m (omega arith)

-- each place has the value of its index
pub entries-value : (fs : List Fraction) (g : ℕ) → entry_value (entries fs) g ≡ slice_get fs g
entries-value fs g = value_from 0 fs g g (omega arith)

pub places_below : (fs : List Fraction) (n : ℕ) → length fs ≡ n → All (λ e. e.place < n) (entries fs)
places_below fs n c = All-map (λ e. e.place < n) entry_of (enumerate_from 0 fs) below where
  below : All (λ e. e.0 < n) (enumerate_from 0 fs)
  below k d l =
      let inside : k < length fs = omega (arith, l, length-enumerate_from 0 fs) in
      omega (arith, inside, c, ap (λ (e : ℕ × Fraction). e.0) (get_or-enumerate_from 0 fs k d inside))

pub pairs_rise : (fs : List Fraction) → AllPairs (λ e f. e.0 < f.0) (enumerate_from 0 fs)
pairs_rise fs i j d l m =
    let inside : j < length fs = omega (arith, m, length-enumerate_from 0 fs) in
    omega (arith, l, ap (λ (e : ℕ × Fraction). e.0) (get_or-enumerate_from 0 fs i d (omega arith)), ap (λ (e : ℕ × Fraction). e.0) (get_or-enumerate_from 0 fs j d inside))

rise_from : (n : ℕ) (fs : List Fraction) → AllPairs (λ e f. e.0 < f.0) (enumerate_from n fs) → AllPairs (λ e f. e.place < f.place) (map entry_of (enumerate_from n fs))
rise_from n fs h i j d l m =
    let k : j < length (enumerate_from n fs) = omega (arith, m, length-map (enumerate_from n fs) entry_of) in
    omega (arith, at i (omega arith), at j k, h i j (0, d.value) l k)
  where
    at : (i : ℕ) → i < length (enumerate_from n fs) → (get_or (map entry_of (enumerate_from n fs)) i d).place ≡ (get_or (enumerate_from n fs) i (0, d.value)).0
    at i l = ap (λ (e : Entry). e.place) (get_or-map entry_of (enumerate_from n fs) i (0, d.value) d l)

pub places_rise : (fs : List Fraction) → AllPairs (λ e f. e.place < f.place) (entries fs)
places_rise fs = rise_from 0 fs (pairs_rise fs)

pub values_keep : (P : Fraction → Type 0) (fs : List Fraction) → All P fs → All (λ e. P e.value) (entries fs)
values_keep P fs h = All-map (λ e. P e.value) entry_of (enumerate_from 0 fs) kept where
  kept : All (λ e. P e.1) (enumerate_from 0 fs)
  kept k d l =
      let inside : k < length fs = omega (arith, l, length-enumerate_from 0 fs) in
      subst P (sym (ap (λ (e : ℕ × Fraction). e.1) (get_or-enumerate_from 0 fs k d inside))) (h k d.1 inside)
