-- The records of peaked sheets are read in one way alone.
use Rattle.std.proofs.Common.{◌≡◌, ◌≢◌, ◌<◌, ◌-◌, ℕ, suc, ℤ, pos, List, [], ◌∷◌, ◌++◌, map, length, get_or, Option, Some, None, Result, Err, refl, sym, ap, subst, ◌∙◌, append_assoc, arith}
use Rattle.std.specs.Prelude.{AllPairs, slice_get}
use Rattle.std.specs.List.{flat_map}
use Rattle.std.proofs.lemmas.List.{length-map}
use Rattle.ofit_num.proofs.Numerals.{IsWhole-number, IsSigned-number}
use Rattle.ofit_num.specs.NumberText.{IsWhole, IsSigned}
use Rattle.ofit_sheet.specs.declared.fault.SheetFault.{SheetFault}
use Rattle.ofit_sheet.specs.declared.fault.SheetFault.TheVariants as fault
use Rattle.ofit_sheet.specs.Peaked.{Peaked, IsShaped}
use Rattle.ofit_sheet.specs.Slots.{Slot, peak_slot, value_slot, side_slot, step_slot, last_slot, end_slot}
use Rattle.ofit_sheet.specs.PeakedRead.{Item, peak_item, value_item, step_item, end_item, IsPeakedHeader, SpellsPeak, SpellsPlainValue, SpellsStep, SpellsLastStep, SpellsSlot, SpellsNext, peaked_grammar, step_told, side_items, items_of, IsPeakedOf, PeakedRead}
use Rattle.ofit_sheet.proofs.OneFrame.{one_reading}
use Rattle.ofit_study.proofs.Places.{named_place}

header_one : (fields : List (List ℕ)) (a b : ℕ) → IsPeakedHeader fields a → IsPeakedHeader fields b → a ≡ b
header_one fields a b h k =
    let texts : k.text ≡ h.text = let e = h.spells in let f = k.spells in cc in
    IsWhole-number h.text a b h.number (subst (λ (t : List ℕ). IsWhole t b) texts k.number)

whole_one : (s t : List ℕ) (m n : ℕ) → s ≡ t → IsWhole s m → IsWhole t n → m ≡ n
whole_one s t m n e a b = IsWhole-number s m n a (subst (λ (u : List ℕ). IsWhole u n) (sym e) b)

signed_one : (s t : List ℕ) (y z : ℤ) → s ≡ t → IsSigned s y → IsSigned t z → y ≡ z
signed_one s t y z e a b = IsSigned-number s y z a (subst (λ (u : List ℕ). IsSigned u z) (sym e) b)

no_names : (names : List (List ℕ)) (place : ℕ) (name : List ℕ) → names ≡ [] → slice_get names place ≡ Some name → ⊥
no_names names place name e f = absurd (let g = ap (λ (t : List (List ℕ)). slice_get t place) e in cc)

module _ (names : List (List ℕ)) (apart : AllPairs (λ a b. a ≢ b) names) where
  peak_one : (fields : List (List ℕ)) (p q : Option ℕ) (c d : ℕ) → SpellsPeak names fields p c → SpellsPeak names fields q d → peak_item p c ≡ peak_item q d
  peak_one fields None None c d s t = ap (λ (n : ℕ). peak_item None n) (s.free ∙ sym t.free)
  peak_one fields None (Some q) c d s t = absurd (no_names names q t.name s.nothing t.group)
  peak_one fields (Some p) None c d s t = absurd (no_names names p s.name t.nothing s.group)
  peak_one fields (Some p) (Some q) c d s t =
      let name : t.name ≡ s.name = let e = s.spells in let f = t.spells in cc in
      let text : s.text ≡ t.text = let e = s.spells in let f = t.spells in cc in
      let places : p ≡ q = named_place names s.name p q apart s.group (t.group ∙ ap (λ (u : List ℕ). Some u) name) in
      let costs : c ≡ d = whole_one s.text t.text c d text s.number t.number in
      λ i. peak_item (Some (places i)) (costs i)

  value_one : (place : ℕ) (fields : List (List ℕ)) (y z : ℤ) → SpellsPlainValue names place fields y → SpellsPlainValue names place fields z → y ≡ z
  value_one place fields y z s t =
      let text : s.text ≡ t.text = let e = s.spells in let f = t.spells in cc in
      signed_one s.text t.text y z text s.number t.number

  step_values : (place : ℕ) (fields : List (List ℕ)) (y z a b : ℤ) → SpellsStep names place fields y a → SpellsStep names place fields z b → y ≡ z
  step_values place fields y z a b s t =
      let text : s.text ≡ t.text = let e = s.spells in let f = t.spells in cc in
      signed_one s.text t.text y z text s.number t.number

  step_amounts : (place : ℕ) (fields : List (List ℕ)) (y z a b : ℤ) → SpellsStep names place fields y a → SpellsStep names place fields z b → a ≡ b
  step_amounts place fields y z a b s t =
      let text : s.size_text ≡ t.size_text = let e = s.spells in let f = t.spells in cc in
      s.is_size ∙ ap pos (whole_one s.size_text t.size_text s.size t.size text s.whole t.whole) ∙ sym t.is_size

  last_one : (place : ℕ) (fields : List (List ℕ)) (y z : ℤ) → SpellsLastStep names place fields y → SpellsLastStep names place fields z → y ≡ z
  last_one place fields y z s t =
      let text : s.text ≡ t.text = let e = s.spells in let f = t.spells in cc in
      signed_one s.text t.text y z text s.number t.number

  slot_one : (slot : Slot) (fields : List (List ℕ)) (i j : Item) → SpellsSlot names slot fields i → SpellsSlot names slot fields j → i ≡ j
  slot_one peak_slot fields i j s t = s.2 ∙ peak_one fields s.0 t.0 s.1 t.1 s.3 t.3 ∙ sym t.2
  slot_one (value_slot place) fields i j s t = s.1 ∙ ap value_item (value_one place fields s.0 t.0 s.2 t.2) ∙ sym t.1
  slot_one (side_slot slope k) fields i j s t = s.0 ∙ sym t.0
  slot_one (step_slot place) fields i j s t =
      let y : s.0 ≡ t.0 = step_values place fields s.0 t.0 s.1 t.1 s.3 t.3 in
      let a : s.1 ≡ t.1 = step_amounts place fields s.0 t.0 s.1 t.1 s.3 t.3 in
      let both : step_item s.0 s.1 ≡ step_item t.0 t.1 = λ k. step_item (y k) (a k) in
      s.2 ∙ both ∙ sym t.2
  slot_one (last_slot place) fields i j s t =
      let y : s.0 ≡ t.0 = last_one place fields s.0 t.0 s.2 t.2 in
      s.1 ∙ ap (λ (z : ℤ). step_item z (pos 0)) y ∙ sym t.1
  slot_one end_slot fields i j s t = s.0 ∙ sym t.0

  next_one : (places : ℕ) (before : List Item) (fields : List (List ℕ)) (i j : Item) → SpellsNext names before fields i → SpellsNext names before fields j → i ≡ j
  next_one places before fields i j s t =
      let same : t.slot ≡ s.slot = let e = s.next in let f = t.next in cc in
      slot_one s.slot fields i j s.spells (subst (λ (u : Slot). SpellsSlot names u fields j) same t.spells)

-- lists of equal lengths at the front of equal lists
fronts : {A : Type 0} (xs ys us vs : List A) → length xs ≡ length ys → xs ++ us ≡ ys ++ vs → (xs ≡ ys) × (us ≡ vs)
fronts [] [] us vs l e = (refl, e)
fronts [] (y ∷ ys) us vs l e = absurd (omega (arith, l))
fronts (x ∷ xs) [] us vs l e = absurd (omega (arith, l))
fronts {A} (x ∷ xs) (y ∷ ys) us vs l e =
    let heads : x ≡ y = cc in
    let tails : xs ++ us ≡ ys ++ vs = cc in
    let rest = fronts xs ys us vs (omega (arith, l)) tails in
    (ap (λ (t : A). t ∷ xs) heads ∙ ap (λ (t : List A). y ∷ t) rest.0, rest.1)

values_one : (xs ys : List ℤ) → map value_item xs ≡ map value_item ys → xs ≡ ys
values_one [] [] e = refl
values_one [] (y ∷ ys) e = absurd (cc)
values_one (x ∷ xs) [] e = absurd (cc)
values_one (x ∷ xs) (y ∷ ys) e =
    let heads : x ≡ y = cc in
    let tails : map value_item xs ≡ map value_item ys = cc in
    ap (λ (t : ℤ). t ∷ xs) heads ∙ ap (λ (t : List ℤ). y ∷ t) (values_one xs ys tails)

steps_one : (xs ys : List (ℤ × ℤ)) → map step_told xs ≡ map step_told ys → xs ≡ ys
steps_one [] [] e = refl
steps_one [] (y ∷ ys) e = absurd (cc)
steps_one (x ∷ xs) [] e = absurd (cc)
steps_one (x ∷ xs) (y ∷ ys) e =
    let values : x.0 ≡ y.0 = cc in
    let amounts : x.1 ≡ y.1 = cc in
    let tails : map step_told xs ≡ map step_told ys = cc in
    let heads : x ≡ y = λ i. (values i, amounts i) in
    ap (λ (t : ℤ × ℤ). t ∷ xs) heads ∙ ap (λ (t : List (ℤ × ℤ)). y ∷ t) (steps_one xs ys tails)

-- the sides are as long in both
abbrev SameLengths : List (List (ℤ × ℤ)) → List (List (ℤ × ℤ)) → Type 0
SameLengths xs ys = (k : ℕ) → k < length xs → length (get_or xs k []) ≡ length (get_or ys k [])

sides_one : (xs ys : List (List (ℤ × ℤ))) (us vs : List Item) → length xs ≡ length ys → SameLengths xs ys → flat_map side_items xs ++ us ≡ flat_map side_items ys ++ vs → (xs ≡ ys) × (us ≡ vs)
sides_one [] [] us vs l h e = (refl, e)
sides_one [] (y ∷ ys) us vs l h e = absurd (omega (arith, l))
sides_one (x ∷ xs) [] us vs l h e = absurd (omega (arith, l))
sides_one (x ∷ xs) (y ∷ ys) us vs l h e =
    let first : length x ≡ length y = h 0 (omega arith) in
    let tails : (map step_told x ++ flat_map side_items xs) ++ us ≡ (map step_told y ++ flat_map side_items ys) ++ vs = cc in
    let apart : map step_told x ++ (flat_map side_items xs ++ us) ≡ map step_told y ++ (flat_map side_items ys ++ vs) =
    sym (append_assoc (map step_told x) (flat_map side_items xs) us) ∙ tails ∙ append_assoc (map step_told y) (flat_map side_items ys) vs in
    let parts = fronts (map step_told x) (map step_told y) (flat_map side_items xs ++ us) (flat_map side_items ys ++ vs) (length-map x step_told ∙ first ∙ sym (length-map y step_told)) apart in
    let rest = sides_one xs ys us vs (omega (arith, l)) (λ k m. h (suc k) (omega (arith, m))) parts.1 in
    (ap (λ (t : List (ℤ × ℤ)). t ∷ xs) (steps_one x y parts.0) ∙ ap (λ (t : List (List (ℤ × ℤ))). y ∷ t) rest.0, rest.1)

back_one : (k : ℕ) → suc k - 1 ≡ k
back_one k = omega arith

rise_lengths : (n : ℕ) (x y : Peaked) → IsShaped n x → IsShaped n y → SameLengths x.rises y.rises
rise_lengths n x y s t k l =
    let a = s.rise (suc k) (omega arith) (omega (arith, l, s.rises)) in
    let b = t.rise (suc k) (omega arith) (omega (arith, l, s.rises)) in
    subst (λ (j : ℕ). length (get_or x.rises j []) ≡ length (get_or y.rises j [])) (back_one k) (a.count ∙ sym b.count)

fall_lengths : (n : ℕ) (x y : Peaked) → IsShaped n x → IsShaped n y → SameLengths x.falls y.falls
fall_lengths n x y s t k l = (s.fall k (omega (arith, l, s.falls))).count ∙ sym (t.fall k (omega (arith, l, s.falls))).count

made_one : (names : List (List ℕ)) (places : ℕ) (items : List Item) (x y : Peaked) → IsPeakedOf names places items x → IsPeakedOf names places items y → x ≡ y
made_one names places items x y h k =
    let n = length names in
    let s = h.shaped in
    let t = k.shaped in
    let same : items_of x ≡ items_of y = sym h.told ∙ k.told in
    let peaks : x.peak ≡ y.peak = cc in
    let costs : x.cost ≡ y.cost = cc in
    let us = flat_map side_items x.falls ++ end_item ∷ [] in
    let vs = flat_map side_items y.falls ++ end_item ∷ [] in
    let tails : map value_item x.values ++ (flat_map side_items x.rises ++ us) ≡ map value_item y.values ++ (flat_map side_items y.rises ++ vs) = cc in
    let parts = fronts (map value_item x.values) (map value_item y.values) (flat_map side_items x.rises ++ us) (flat_map side_items y.rises ++ vs)
    (length-map x.values value_item ∙ s.values ∙ sym t.values ∙ sym (length-map y.values value_item)) tails in
    let rises = sides_one x.rises y.rises us vs (s.rises ∙ sym t.rises) (rise_lengths n x y s t) parts.1 in
    let falls = sides_one x.falls y.falls (end_item ∷ []) (end_item ∷ []) (s.falls ∙ sym t.falls) (fall_lengths n x y s t) rises.1 in
    let values = values_one x.values y.values parts.0 in
    let header = h.header ∙ sym k.header in
    λ i. record { places = header i; peak = peaks i; cost = costs i; values = values i; rises = rises.0 i; falls = falls.0 i }

pub peaked_one : (names : List (List ℕ)) → AllPairs (λ a b. a ≢ b) names → (rows : List (List (List ℕ))) (a b : Result Peaked SheetFault) → PeakedRead names rows a → PeakedRead names rows b → (a ≡ Err fault.Memory → ⊥) → (b ≡ Err fault.Memory → ⊥) → a ≡ b
peaked_one names apart rows a b h k u v = one_reading (peaked_grammar names) header_one (next_one names apart) rows (IsPeakedOf names) (made_one names) a b h k u v
