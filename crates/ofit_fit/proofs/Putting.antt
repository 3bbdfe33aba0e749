-- Lists made or changed one element at a time.
use Rattle.std.proofs.Common.{◌≡◌, ℕ, ◌+◌, ◌<◌, ◌≤◌, refl, sym, ap, subst, ◌∙◌, arith, inl, inr, List, [], ◌∷◌, ◌++◌, length, get_or, set, slice_index, take, map}
use Rattle.std.proofs.lemmas.Bool.{cases_order}
use Rattle.std.proofs.lemmas.List.{take_more, take_all, map-append, get_or-take, get_or_default, length-take, length-set}
use Rattle.std.specs.Prelude.{slice_get, Some}
use Rattle.std.specs.List.{Contains}
use Rattle.ofit_num.specs.Fraction.{Fraction}
use Rattle.ofit_num.proofs.Elements.{at_set, other_set}
use Rattle.ofit_fit.specs.Put.{ArePut}
use Rattle.ofit_fit.proofs.Linking.{take_from, take_to}
use Rattle.ofit_fit.proofs.Places.{IsDistinct}

pub mapped_more : {Y : Type 0} (f : ℕ → Y) (xs : List ℕ) (i : ℕ) (ys after : List Y) (y : Y) → i < length xs → y ≡ f (get_or xs i 0) → after ≡ ys ++ y ∷ [] → ys ≡ map f (take i xs) → after ≡ map f (take (i + 1) xs)
mapped_more {Y} f xs i ys after y l same is e =
    is ∙ ap (λ (zs : List Y). zs ++ y ∷ []) e ∙ ap (λ (z : Y). map f (take i xs) ++ z ∷ []) same
    ∙ sym (map-append f (take i xs) (get_or xs i 0 ∷ [])) ∙ ap (map f) (sym (take_more xs i 0 l))

pub mapped_all : {Y : Type 0} (f : ℕ → Y) (xs : List ℕ) (i : ℕ) (ys : List Y) → length xs ≤ i → ys ≡ map f (take i xs) → ys ≡ map f xs
mapped_all f xs i ys l e = e ∙ ap (map f) (take_all i xs l)

pub put_none : (places : List ℕ) (values before : List Fraction) → ArePut (take 0 places) values before before
put_none places values before = record {
  count = refl;
  put = λ i l. absurd (omega (arith, l));
  others = λ g h. refl;
}

pub put_more : (places : List ℕ) (values before after : List Fraction) (i : ℕ) (value : Fraction) → IsDistinct (slice_index places) (length places) → i < length places → slice_index places i < length before
    → slice_get values i ≡ Some value → ArePut (take i places) values before after → ArePut (take (i + 1) places) values before (set after (slice_index places i) value)
put_more places values before after i value distinct l m at h = record {
  count = length-set after (slice_index places i) value ∙ h.count;
  put = λ j b. put j (omega (arith, b, length-take (i + 1) places)) (omega (arith, b, length-take (i + 1) places)) (get_or-take (i + 1) places j 0 (omega (arith, b, length-take (i + 1) places)));
  others = λ g none.
      other_set after (slice_index places i) g value (λ e. none (take_to places (i + 1) g i (omega arith) l (get_or_default places i g 0 l ∙ sym e)))
      ∙ h.others g (λ c. none (grows g c));
} where
  put : (j : ℕ) → j < i + 1 → j < length places → slice_index (take (i + 1) places) j ≡ slice_index places j → slice_get (set after (slice_index places i) value) (slice_index (take (i + 1) places) j) ≡ slice_get values j
  put j b c e = ap (slice_get (set after (slice_index places i) value)) e ∙ elim (cases_order j i) [
    | inl same ↦ ap (λ (k : ℕ). slice_get (set after (slice_index places i) value) (slice_index places k)) same ∙ at_set after (slice_index places i) value (omega (arith, h.count, m)) ∙ sym at ∙ ap (slice_get values) (sym same)
    | inr o ↦ elim o [
      | inl x ↦ other_set after (slice_index places i) (slice_index places j) value (λ s. absurd (omega (arith, x, distinct j i c l s)))
          ∙ ap (slice_get after) (sym (get_or-take i places j 0 x)) ∙ h.put j (omega (arith, x, c, length-take i places))
      | inr x ↦ absurd (omega (arith, b, x))
    ]
  ]

  grows : (g : ℕ) → Contains (take i places) g → Contains (take (i + 1) places) g
  grows g c =
      let f : (k : ℕ) × (k < i) × (k < length places) × (get_or places k g ≡ g) = take_from places i g c in
      take_to places (i + 1) g f.0 (omega (arith, f.1)) f.2 f.3

pub put_all : (places : List ℕ) (values before after : List Fraction) (i : ℕ) → length places ≤ i → ArePut (take i places) values before after → ArePut places values before after
put_all places values before after i l h = subst (λ (xs : List ℕ). ArePut xs values before after) (take_all i places l) h
