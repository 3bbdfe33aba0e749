-- What is told of records with one more.
use Rattle.std.proofs.Common.{◌≡◌, ℕ, ◌+◌, ◌≤◌, ◌<◌, ℤ, Bool, true, false, List, [], ◌∷◌, ◌++◌, length, refl, sym, ap, subst, ◌∙◌, append_assoc, append-nil, length-append, Option, Some, None, arith}
use Rattle.std.specs.Prelude.{All, slice_get, ◌||◌}
use Rattle.std.specs.List.{filter_map, cons_option}
use Rattle.std.proofs.lemmas.List.Elements.{filter_map-append, All-nil, All-cons, All-head, All-tail}
use Rattle.std.proofs.lemmas.List.Folds.{list_any-append}
use Rattle.ofit_num.specs.Fraction.{Fraction}
use Rattle.ofit_sheet.specs.declared.size.Size as size
use Rattle.ofit_sheet.specs.declared.item.Item.{Item}
use Rattle.ofit_sheet.specs.declared.item.Item.TheVariants as it
use Rattle.ofit_sheet.specs.Frame.{IsGood, AreGood}
use Rattle.ofit_sheet.specs.Rules.{value_in, flow_in, is_end, values_of, has_end, IsAllowed, sheet_rules}
use Rattle.ofit_sheet.specs.SheetRead.{bounds_in, size_in}
use Rattle.ofit_sheet.specs.Told.{Told, place_after, told_of, told_with}
use Rattle.ofit_sheet.proofs.Rising.{IsRising}

abbrev pub place : ℕ × Fraction → ℕ
place e = e.0

pub place_after-push : (n : ℕ) (es : List (ℕ × Fraction)) (e : ℕ × Fraction) → place_after n (es ++ e ∷ []) ≡ e.0 + 1
place_after-push n [] e = refl
place_after-push n (f ∷ es) e = place_after-push (f.0 + 1) es e

-- a place is behind all places where it is at least the next one
pub all_before : (n : ℕ) (es : List (ℕ × Fraction)) (p : ℕ) → IsRising place n es → place_after n es ≤ p → All (λ e. e.0 < p) es × (n ≤ p)
all_before n [] p r l = (All-nil (λ (e : ℕ × Fraction). e.0 < p), l)
all_before n (e ∷ es) p r l =
    let rest = all_before (e.0 + 1) es p r.1 l in
    (All-cons (λ (f : ℕ × Fraction). f.0 < p) e es (omega (arith, rest.1)) rest.0, omega (arith, rest.1, r.0))

pub next_place : (n : ℕ) (es : List (ℕ × Fraction)) (p : ℕ) → n ≤ p → All (λ e. e.0 < p) es → place_after n es ≤ p
next_place n [] p l h = l
next_place n (e ∷ es) p l h = next_place (e.0 + 1) es p (omega (arith, All-head (λ (f : ℕ × Fraction). f.0 < p) e es h)) (All-tail (λ (f : ℕ × Fraction). f.0 < p) e es h)

-- an item that tells nothing of a kind
pub none_more : {X : Type 0} (f : Item → Option X) (items : List Item) (item : Item) → f item ≡ None → filter_map f (items ++ item ∷ []) ≡ filter_map f items
none_more {X} f items item e = filter_map-append f items (item ∷ []) ∙ ap (λ (o : Option X). filter_map f items ++ cons_option o []) e ∙ append-nil (filter_map f items)

pub one_more : {X : Type 0} (f : Item → Option X) (items : List Item) (item : Item) (x : X) → f item ≡ Some x → filter_map f (items ++ item ∷ []) ≡ filter_map f items ++ x ∷ []
one_more {X} f items item x e = filter_map-append f items (item ∷ []) ∙ ap (λ (o : Option X). filter_map f items ++ cons_option o []) e

or_false : (b : Bool) → (b || false) ≡ b
or_false true = refl
or_false false = refl

or_true : (b : Bool) → (b || true) ≡ true
or_true true = refl
or_true false = refl

pub same_end : (items : List Item) (item : Item) → is_end item ≡ false → has_end (items ++ item ∷ []) ≡ has_end items
same_end items item e = list_any-append is_end items (item ∷ []) ∙ ap (λ (b : Bool). has_end items || (b || false)) e ∙ or_false (has_end items)

pub ends_now : (items : List Item) → has_end (items ++ it.End ∷ []) ≡ true
ends_now items = list_any-append is_end items (it.End ∷ []) ∙ or_true (has_end items)

counted : (items : List Item) (item : Item) → length (items ++ item ∷ []) ≡ length items + 1
counted items item = length-append items (item ∷ [])

-- the records before the second tell no size
first_is_bounds : (names : List (List ℕ)) (sized : Bool) (rows : List (List (List ℕ))) (item : Item) (items : List Item) → AreGood (sheet_rules names sized) [] rows (item ∷ items) → size_in item ≡ None
first_is_bounds names sized [] item items g = absurd g
first_is_bounds names sized (row ∷ rows) (it.Bounds lo hi) items g = refl
first_is_bounds names sized (row ∷ rows) (it.Size z) items g = absurd (omega (arith, g.0.spells.1.1))
first_is_bounds names sized (row ∷ rows) (it.Value p v) items g = refl
first_is_bounds names sized (row ∷ rows) (it.Flow low high amount) items g = refl
first_is_bounds names sized (row ∷ rows) it.End items g = refl

no_size_yet : (names : List (List ℕ)) (sized : Bool) (rows : List (List (List ℕ))) (items : List Item) → AreGood (sheet_rules names sized) [] rows items → length items ≡ 1 → filter_map size_in items ≡ []
no_size_yet names sized rows [] g l = refl
no_size_yet names sized rows (item ∷ []) g l = none_more size_in [] item (first_is_bounds names sized rows item [] g)
no_size_yet names sized rows (item ∷ next ∷ items) g l = absurd (omega (arith, l))

told_same : (s t : Told) → s.bounds ≡ t.bounds → s.size ≡ t.size → s.values ≡ t.values → s.flows ≡ t.flows → s.count ≡ t.count → s.least ≡ t.least → s.has_ended ≡ t.has_ended → s ≡ t
told_same s t a b c d e f g = λ i. record { bounds = a i; size = b i; values = c i; flows = d i; count = e i; least = f i; has_ended = g i }

-- what is told with one record more that may stand there
pub told-push : (names : List (List ℕ)) (sized : Bool) (rows : List (List (List ℕ))) (items : List Item) (item : Item) → AreGood (sheet_rules names sized) [] rows items → IsAllowed sized items item → told_of (items ++ item ∷ []) ≡ told_with (told_of items) item
told-push names sized rows items (it.Bounds lo hi) g a =
    let x : Item = it.Bounds lo hi in
    let flat : filter_map bounds_in items ≡ [] = ap (filter_map bounds_in) a.0 in
    told_same (told_of (items ++ x ∷ [])) (told_with (told_of items) x)
    (ap (λ (l : List (Option ℤ × Option ℤ)). slice_get l 0) (one_more bounds_in items x (lo, hi) refl ∙ ap (λ (l : List (Option ℤ × Option ℤ)). l ++ (lo, hi) ∷ []) flat))
    (ap (λ (l : List size.Size). slice_get l 0) (none_more size_in items x refl))
    (none_more value_in items x refl) (none_more flow_in items x refl) (counted items x) (ap (place_after 0) (none_more value_in items x refl)) (same_end items x refl)
told-push names sized rows items (it.Size z) g a =
    let x : Item = it.Size z in
    let flat : filter_map size_in items ≡ [] = no_size_yet names sized rows items g a.1 in
    told_same (told_of (items ++ x ∷ [])) (told_with (told_of items) x)
    (ap (λ (l : List (Option ℤ × Option ℤ)). slice_get l 0) (none_more bounds_in items x refl))
    (ap (λ (l : List size.Size). slice_get l 0) (one_more size_in items x z refl ∙ ap (λ (l : List size.Size). l ++ z ∷ []) flat))
    (none_more value_in items x refl) (none_more flow_in items x refl) (counted items x) (ap (place_after 0) (none_more value_in items x refl)) (same_end items x refl)
told-push names sized rows items (it.Value p v) g a =
    let x : Item = it.Value p v in
    told_same (told_of (items ++ x ∷ [])) (told_with (told_of items) x)
    (ap (λ (l : List (Option ℤ × Option ℤ)). slice_get l 0) (none_more bounds_in items x refl)) (ap (λ (l : List size.Size). slice_get l 0) (none_more size_in items x refl))
    (one_more value_in items x (p, v) refl) (none_more flow_in items x refl) (counted items x) (ap (place_after 0) (one_more value_in items x (p, v) refl) ∙ place_after-push 0 (values_of items) (p, v)) (same_end items x refl)
told-push names sized rows items (it.Flow low high amount) g a =
    let x : Item = it.Flow low high amount in
    told_same (told_of (items ++ x ∷ [])) (told_with (told_of items) x)
    (ap (λ (l : List (Option ℤ × Option ℤ)). slice_get l 0) (none_more bounds_in items x refl)) (ap (λ (l : List size.Size). slice_get l 0) (none_more size_in items x refl))
    (none_more value_in items x refl) (one_more flow_in items x (low, high, amount) refl) (counted items x) (ap (place_after 0) (none_more value_in items x refl)) (same_end items x refl)
told-push names sized rows items it.End g a =
    let x : Item = it.End in
    told_same (told_of (items ++ x ∷ [])) (told_with (told_of items) x)
    (ap (λ (l : List (Option ℤ × Option ℤ)). slice_get l 0) (none_more bounds_in items x refl)) (ap (λ (l : List size.Size). slice_get l 0) (none_more size_in items x refl))
    (none_more value_in items x refl) (none_more flow_in items x refl) (counted items x) (ap (place_after 0) (none_more value_in items x refl)) (ends_now items)

-- the places of good records rise
module _ (names : List (List ℕ)) (sized : Bool) where
  kept_place : (before : List Item) (item : Item) (rest : List (ℕ × Fraction)) → value_in item ≡ None → IsRising place (place_after 0 (values_of (before ++ item ∷ []))) rest → IsRising place (place_after 0 (values_of before)) rest
  kept_place before item rest e h = subst (λ (l : List (ℕ × Fraction)). IsRising place (place_after 0 l) rest) (none_more value_in before item e) h

  pub good_rising : (before : List Item) (rows : List (List (List ℕ))) (items : List Item) → AreGood (sheet_rules names sized) before rows items → IsRising place (place_after 0 (values_of before)) (values_of items)
  good_rising before [] [] g = tt
  good_rising before [] (item ∷ items) g = absurd g
  good_rising before (row ∷ rows) [] g = absurd g
  good_rising before (row ∷ rows) (it.Bounds lo hi ∷ items) g = kept_place before (it.Bounds lo hi) (values_of items) refl (good_rising (before ++ it.Bounds lo hi ∷ []) rows items g.1)
  good_rising before (row ∷ rows) (it.Size z ∷ items) g = kept_place before (it.Size z) (values_of items) refl (good_rising (before ++ it.Size z ∷ []) rows items g.1)
  good_rising before (row ∷ rows) (it.Value p v ∷ items) g =
      let next : place_after 0 (values_of (before ++ it.Value p v ∷ [])) ≡ p + 1 = ap (place_after 0) (one_more value_in before (it.Value p v) (p, v) refl) ∙ place_after-push 0 (values_of before) (p, v) in
      (next_place 0 (values_of before) p (omega arith) g.0.spells.1.1.rises, subst (λ (n : ℕ). IsRising place n (values_of items)) next (good_rising (before ++ it.Value p v ∷ []) rows items g.1))
  good_rising before (row ∷ rows) (it.Flow low high amount ∷ items) g = kept_place before (it.Flow low high amount) (values_of items) refl (good_rising (before ++ it.Flow low high amount ∷ []) rows items g.1)
  good_rising before (row ∷ rows) (it.End ∷ items) g = kept_place before it.End (values_of items) refl (good_rising (before ++ it.End ∷ []) rows items g.1)

  pub good-push : (before : List Item) (rows : List (List (List ℕ))) (items : List Item) (fields : List (List ℕ)) (item : Item) → AreGood (sheet_rules names sized) before rows items → IsGood (sheet_rules names sized) (before ++ items) fields item
      → AreGood (sheet_rules names sized) before (rows ++ fields ∷ []) (items ++ item ∷ [])
  good-push before [] [] fields item g h = (subst (λ (b : List Item). IsGood (sheet_rules names sized) b fields item) (append-nil before) h, tt)
  good-push before [] (x ∷ items) fields item g h = absurd g
  good-push before (row ∷ rows) [] fields item g h = absurd g
  good-push before (row ∷ rows) (x ∷ items) fields item g h =
      (g.0, good-push (before ++ x ∷ []) rows items fields item g.1 (subst (λ (b : List Item). IsGood (sheet_rules names sized) b fields item) (sym (append_assoc before (x ∷ []) items)) h))

  pub good-length : (before : List Item) (rows : List (List (List ℕ))) (items : List Item) → AreGood (sheet_rules names sized) before rows items → length rows ≡ length items
  good-length before [] [] g = refl
  good-length before [] (x ∷ items) g = absurd g
  good-length before (row ∷ rows) [] g = absurd g
  good-length before (row ∷ rows) (x ∷ items) g = omega (arith, good-length (before ++ x ∷ []) rows items g.1)
