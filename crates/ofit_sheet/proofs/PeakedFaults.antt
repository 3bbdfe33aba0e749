-- What is wrong with the fields of a record of a peaked sheet is wrong with the record.
use Rattle.std.proofs.Common.{◌≡◌, ℕ, ◌≤◌, ℤ, pos, List, [], ◌∷◌, Option, Some, None, Err, refl, ap, subst, ◌∙◌}
use Rattle.std.specs.Prelude.{unsigned_abs, slice_get, codes}
use Rattle.ofit_num.specs.declared.limits.TheConstants.{MOST_UNITS}
use Rattle.ofit_num.specs.NumberText.{IsWhole, IsSigned}
use Rattle.ofit_sheet.specs.declared.fault.RecordFault.{RecordFault}
use Rattle.ofit_sheet.specs.Kept.{most_amount}
use Rattle.ofit_study.specs.FieldText.{dash}
use Rattle.ofit_sheet.specs.Reading.{IsReading}
use Rattle.ofit_sheet.specs.Peaked.{most_cost}
use Rattle.ofit_sheet.specs.Slots.{peak_slot, value_slot, step_slot, last_slot}
use Rattle.ofit_sheet.specs.PeakedRead.{Item, peak_item, value_item, step_item, IsPeakedHeader, SpellsPeak, SpellsSlot, IsWithinLimits}
use Rattle.ofit_sheet.proofs.Readings.{fault_moved}
use Rattle.ofit_sheet.proofs.FourFields.{no_places}

pub no_header : (fields : List (List ℕ)) (kind first second third : List ℕ) (fault : RecordFault) → fields ≡ kind ∷ first ∷ second ∷ third ∷ [] → IsReading {X = ℕ} (λ n. IsWhole third n) (λ n. n ≤ 6) (Err fault)
    → (places : ℕ) → IsPeakedHeader fields places → ⊥
no_header fields kind first second third fault e h places i =
    let same : i.text ≡ third = let fours = i.spells in cc in
    no_places third fault places h (rw same at i.number) i.most

module _ (names : List (List ℕ)) (fields : List (List ℕ)) where
  no_none : (place : ℕ) (name : List ℕ) → names ≡ [] → slice_get names place ≡ Some name → ⊥
  no_none place name e f = absurd (let g = ap (λ (t : List (List ℕ)). slice_get t place) e in cc)

  module _ (place : ℕ) (name text : List ℕ) (group : slice_get names place ≡ Some name) (spells : fields ≡ codes "peak" ∷ name ∷ text ∷ dash ∷ []) where
    no_cost : (at : Option ℕ) (cost : ℕ) → SpellsPeak names fields at cost → ((n : ℕ) → IsWhole text n → ⊥) → ⊥
    no_cost None cost s bad = no_none place name s.nothing group
    no_cost (Some k) cost s bad =
        let same : s.text ≡ text = let e = s.spells in cc in
        bad cost (subst (λ (t : List ℕ). IsWhole t cost) same s.number)

    pub peak_fault : (fault : RecordFault) → IsReading {X = ℕ} (λ n. IsWhole text n) (λ n. n ≤ most_cost) (Err fault) → IsReading {X = Item} (SpellsSlot names peak_slot fields) IsWithinLimits (Err fault)
    peak_fault fault h =
        fault_moved (λ (n : ℕ). IsWhole text n) (λ (n : ℕ). n ≤ most_cost) (SpellsSlot names peak_slot fields) IsWithinLimits fault
        (λ item s bad. no_cost s.0 s.1 s.3 bad)
        (λ n s l. (peak_item (Some place) n, (Some place, n, refl, record { name = name; text = text; spells = spells; group = group; number = s }), l)) h

  module _ (place : ℕ) (name text : List ℕ) (group : slice_get names place ≡ Some name) where
    pub value_fault : (last : List ℕ) → fields ≡ codes "value" ∷ name ∷ text ∷ last ∷ [] → last ≡ dash → (fault : RecordFault) → IsReading {X = ℤ} (λ z. IsSigned text z) (λ z. unsigned_abs z ≤ MOST_UNITS) (Err fault)
        → IsReading {X = Item} (SpellsSlot names (value_slot place) fields) IsWithinLimits (Err fault)
    value_fault last spells d fault h =
        fault_moved (λ (z : ℤ). IsSigned text z) (λ (z : ℤ). unsigned_abs z ≤ MOST_UNITS) (SpellsSlot names (value_slot place) fields) IsWithinLimits fault
        (λ item s bad. let same : s.2.text ≡ text = (let e = s.2.spells in cc) in bad s.0 (subst (λ (t : List ℕ). IsSigned t s.0) same s.2.number))
        (λ z s l. (value_item z, (z, refl, record { name = name; text = text; spells = spells ∙ ap (λ (t : List ℕ). codes "value" ∷ name ∷ text ∷ t ∷ []) d; group = group; number = s }), l)) h

    pub last_fault : (size : List ℕ) → fields ≡ codes "step" ∷ name ∷ text ∷ size ∷ [] → size ≡ codes "0" → (fault : RecordFault) → IsReading {X = ℤ} (λ z. IsSigned text z) (λ z. unsigned_abs z ≤ MOST_UNITS) (Err fault)
        → IsReading {X = Item} (SpellsSlot names (last_slot place) fields) IsWithinLimits (Err fault)
    last_fault size spells d fault h =
        fault_moved (λ (z : ℤ). IsSigned text z) (λ (z : ℤ). unsigned_abs z ≤ MOST_UNITS) (SpellsSlot names (last_slot place) fields) IsWithinLimits fault
        (λ item s bad. let same : s.2.text ≡ text = (let e = s.2.spells in cc) in bad s.0 (subst (λ (t : List ℕ). IsSigned t s.0) same s.2.number))
        (λ z s l. (step_item z (pos 0), (z, refl, record { name = name; text = text; spells = spells ∙ ap (λ (t : List ℕ). codes "step" ∷ name ∷ text ∷ t ∷ []) d; group = group; number = s }), λ w. l w.0)) h

    pub step_fault : (size : List ℕ) → fields ≡ codes "step" ∷ name ∷ text ∷ size ∷ [] → (fault : RecordFault)
        → IsReading {X = ℤ × ℕ} (λ p. IsSigned text p.0 × IsWhole size p.1) (λ p. (unsigned_abs p.0 ≤ MOST_UNITS) × (p.1 ≤ most_amount)) (Err fault) → IsReading {X = Item} (SpellsSlot names (step_slot place) fields) IsWithinLimits (Err fault)
    step_fault size spells fault h =
        fault_moved (λ (p : ℤ × ℕ). IsSigned text p.0 × IsWhole size p.1) (λ (p : ℤ × ℕ). (unsigned_abs p.0 ≤ MOST_UNITS) × (p.1 ≤ most_amount)) (SpellsSlot names (step_slot place) fields) IsWithinLimits fault
        (λ item s bad.
        let same : s.3.text ≡ text = (let e = s.3.spells in cc) in
        let sizes : s.3.size_text ≡ size = (let e = s.3.spells in cc) in
        bad (s.0, s.3.size) (subst (λ (t : List ℕ). IsSigned t s.0) same s.3.number, subst (λ (t : List ℕ). IsWhole t s.3.size) sizes s.3.whole))
        (λ p s l. (step_item p.0 (pos p.1), (p.0, pos p.1, refl, record { name = name; text = text; size_text = size; size = p.1; spells = spells; group = group; number = s.0; whole = s.1; is_size = refl }), l)) h
