-- How long sides are.
use Rattle.std.proofs.Common.{◌≡◌, ℕ, zero, suc, ◌+◌, ◌-◌, ◌<◌, ◌≤◌, ℤ, List, [], ◌∷◌, ◌++◌, length, get_or, Option, Some, None, inl, inr, refl, sym, ap, subst, ◌∙◌, arith}
use Rattle.std.specs.Prelude.{MatchOption, slice_index_or}
use Rattle.std.proofs.lemmas.Bool.{cases_lt}
use Rattle.std.proofs.lemmas.Option.{slice_get_within}
use Rattle.ofit_sheet.specs.Peaked.{Peaked, IsShaped, IsSide, rise_at, fall_at}
use Rattle.ofit_sheet.specs.PeakedRead.{peak_item, SpellsPeak, SpellsSlot}
use Rattle.ofit_sheet.specs.PeakedSteps.{AreSpelled, Takes}
use Rattle.ofit_sheet.specs.declared.peaked.slope.Slope.{Slope}
use Rattle.ofit_sheet.specs.declared.peaked.slope.Slope.TheVariants.{Rise, Fall}
use Rattle.ofit_sheet.specs.PeakedText.{side_start}
use Rattle.ofit_sheet.specs.Slots.{peak_slot, steps_before_last}

pub steps_at : (slope : Slope) (n k groups count : ℕ) → count ≡ steps_before_last slope groups k → groups ≡ n → count ≡ steps_before_last slope n k
steps_at slope n k groups count e f = e ∙ ap (λ (m : ℕ). steps_before_last slope m k) f

pub within_groups : (slope : Slope) (n k start count : ℕ) → k < n → start ≡ side_start slope k → count ≡ steps_before_last slope n k → start + count < n
within_groups Rise n k start count l e f = omega (arith, l, e, f)
within_groups Fall n k start count l e f = omega (arith, l, e, f)

-- the sides below k are as long as those of n groups
abbrev pub HasBelow : Slope → ℕ → ℕ → List (List (ℤ × ℤ)) → Type 0
HasBelow slope n k sides = (j : ℕ) → j < k → IsSide (suc (steps_before_last slope n j)) (slice_index_or sides j [])

front_item : (sides : List (List (ℤ × ℤ))) (side : List (ℤ × ℤ)) (j : ℕ) → j < length sides → get_or (sides ++ side ∷ []) j [] ≡ get_or sides j []
front_item [] side j l = absurd (omega (arith, l))
front_item (s ∷ sides) side zero l = refl
front_item (s ∷ sides) side (suc j) l = front_item sides side j (omega (arith, l))

last_item : (sides : List (List (ℤ × ℤ))) (side : List (ℤ × ℤ)) → get_or (sides ++ side ∷ []) (length sides) [] ≡ side
last_item [] side = refl
last_item (s ∷ sides) side = last_item sides side

pub has_more : (slope : Slope) (n k : ℕ) (old new : List (List (ℤ × ℤ))) (side : List (ℤ × ℤ)) → length old ≡ k → new ≡ old ++ side ∷ [] → HasBelow slope n k old → IsSide (suc (steps_before_last slope n k)) side → HasBelow slope n (k + 1) new
has_more slope n k old new side l e h s j m = elim (cases_lt j k) [
  | inl less ↦ subst (IsSide (suc (steps_before_last slope n j))) (sym (ap (λ (t : List (List (ℤ × ℤ))). get_or t j []) e ∙ front_item old side j (omega (arith, less, l)))) (h j less)
  | inr more ↦
      let last : j ≡ k = omega (arith, m, more) in
      let at : get_or new j [] ≡ side = ap (λ (t : List (List (ℤ × ℤ))). get_or t j []) e ∙ ap (λ (i : ℕ). get_or (old ++ side ∷ []) i []) (last ∙ sym l) ∙ last_item old side in
      subst (IsSide (suc (steps_before_last slope n j))) (sym at) (subst (λ (i : ℕ). IsSide (suc (steps_before_last slope n i)) side) (sym last) s)
]

-- rises and falls of n groups make a shape
pub shape_made : (n : ℕ) (x : Peaked) → x.places ≤ 6 → MatchOption x.peak (n ≡ 0) (λ k. k < n) → length x.values ≡ n → length x.rises ≡ n → length x.falls ≡ n → HasBelow Rise n n x.rises → HasBelow Fall n n x.falls → IsShaped n x
shape_made n x places peak values rises falls rise fall = record {
  places = places;
  peak = peak;
  values = values;
  rises = rises;
  falls = falls;
  rise = λ i a b.
      let back : suc (i - 1) ≡ i = omega (arith, a) in
      subst (λ (k : ℕ). IsSide k (rise_at x i)) back (rise (i - 1) (omega (arith, a, b)));
  fall = λ i a. let count : suc (n - suc i) ≡ n - i = omega (arith, a) in subst (λ (k : ℕ). IsSide k (fall_at x i)) count (fall i a);
}

-- what the record of the peak says
spelled_peak : (names : List (List ℕ)) (fields : List (List ℕ)) (at : Option ℕ) (cost : ℕ) → SpellsPeak names fields at cost → MatchOption at (length names ≡ 0) (λ k. k < length names)
spelled_peak names fields None cost s = ap length s.nothing
spelled_peak names fields (Some k) cost s = slice_get_within names k s.name s.group

peak_said : (names : List (List ℕ)) (fields : List (List ℕ)) (p : Option ℕ) (c : ℕ) → SpellsSlot names peak_slot fields (peak_item p c) → MatchOption p (length names ≡ 0) (λ k. k < length names)
peak_said names fields p c s =
    let same : s.0 ≡ p = let e = s.2 in cc in
    subst (λ (o : Option ℕ). MatchOption o (length names ≡ 0) (λ k. k < length names)) same (spelled_peak names fields s.0 s.1 s.3)

taken_peak : (names : List (List ℕ)) (p : Option ℕ) (c : ℕ) (done : List (List (List ℕ))) → AreSpelled names (peak_slot ∷ []) done (peak_item p c ∷ []) → MatchOption p (length names ≡ 0) (λ k. k < length names)
taken_peak names p c [] h = absurd h
taken_peak names p c (row ∷ done) h = peak_said names row p c h.0.0

pub peak_so : (names : List (List ℕ)) (p : Option ℕ) (c : ℕ) (n0 n1 : ℕ) (rows left : List (List (List ℕ))) → Takes names (peak_slot ∷ []) (peak_item p c ∷ []) n0 rows n1 left → MatchOption p (length names ≡ 0) (λ k. k < length names)
peak_so names p c n0 n1 rows left t = taken_peak names p c t.done t.spelled
