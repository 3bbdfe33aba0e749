-- A peaked sheet's text is read as that sheet.
use Rattle.std.proofs.Common.{◌≡◌, ◌≢◌, ℕ, zero, suc, ◌+◌, ◌-◌, ◌<◌, ◌≤◌, ℤ, pos, List, [], ◌∷◌, ◌++◌, map, length, get_or, Option, Some, None, Ok, inl, refl, sym, ap, subst, ◌∙◌, append-nil, decimal, arith}
use Rattle.std.specs.Prelude.{All, IfSome, MatchOption, slice_get, codes, unsigned_abs, ◌≤ℤ◌}
use Rattle.std.specs.Fmt.{signed_decimal}
use Rattle.std.specs.List.{range_with_len, enumerate_from, flat_map}
use Rattle.std.proofs.lemmas.List.Elements.{All-nil, All-cons, All-head, All-tail}
use Rattle.std.proofs.lemmas.Option.{slice_get-get_or}
use Rattle.ofit_num.proofs.Quotients.{natural}
use Rattle.ofit_num.specs.declared.limits.TheConstants.{MOST_UNITS}
use Rattle.ofit_num.proofs.Numerals.{IsWhole-decimal, IsSigned-decimal, decimal-from_IsWhole}
use Rattle.ofit_records.specs.Records.{records_of, without_marks}
use Rattle.ofit_records.specs.Written.{records_text}
use Rattle.ofit_records.proofs.WrittenText.{read_back_all, no_mark}
use Rattle.ofit_sheet.specs.declared.peaked.slope.Slope.{Slope}
use Rattle.ofit_sheet.specs.declared.peaked.slope.Slope.TheVariants.{Rise, Fall}
use Rattle.ofit_sheet.specs.SheetText.{name_at, end_fields}
use Rattle.ofit_sheet.specs.Peaked.{Peaked, IsShaped, IsSide, IsInLimits, IsStepInLimits, most_cost}
use Rattle.ofit_sheet.specs.PeakedText.{peaked_header_fields, peak_fields, peaked_value_fields, value_records, step_fields, side_start, side_records, sides_records, peaked_records, peaked_text}
use Rattle.ofit_sheet.specs.Sides.{sides_of}
use Rattle.ofit_sheet.specs.Slots.{Slot, peak_slot, value_slot, side_slot, step_slot, last_slot, end_slot, steps_before_last, side_slots, sides_slots, value_slots, slots}
use Rattle.ofit_sheet.specs.PeakedRead.{Item, value_item, step_item, end_item, IsPeakedHeader, SpellsPeak, SpellsSlot, step_told, side_items, items_of, PeakedRead}
use Rattle.ofit_sheet.specs.PeakedSteps.{AreSpelled, Takes}
use Rattle.ofit_sheet.proofs.PeakedParts.{spelled_then}
use Rattle.ofit_sheet.proofs.PeakedWhole.{whole_read}
use Rattle.ofit_sheet.proofs.Shapes.{side_so, sides_count}

abbrev Rows : Type 0
Rows = List (List (List ℕ))

name_there : (names : List (List ℕ)) (p : ℕ) → p < length names → slice_get names p ≡ Some (name_at names p)
name_there names p l = slice_get-get_or names p [] l

no_names : (names : List (List ℕ)) → length names ≡ 0 → names ≡ []
no_names [] e = refl
no_names (x ∷ names) e = absurd (omega (arith, e))

zero_text : decimal 0 ≡ codes "0"
zero_text = sym (decimal-from_IsWhole (codes "0") 0 (omega arith) (inl (record { is_zero = refl; number = refl })))

module _ (names : List (List ℕ)) where
  peak_spelled : (at : Option ℕ) (cost : ℕ) → MatchOption at (length names ≡ 0) (λ k. k < length names) → (at ≡ None → cost ≡ 0) → cost ≤ most_cost → SpellsPeak names (peak_fields names at cost) at cost
  peak_spelled None cost h free l = record { nothing = no_names names h; free = free refl; spells = refl }
  peak_spelled (Some k) cost h free l = record { name = name_at names k; text = decimal cost; spells = refl; group = name_there names k h; number = IsWhole-decimal cost (omega (arith, l)) }

  values_spelled : (start : ℕ) (values : List ℤ) → start + length values ≤ length names → All (λ v. unsigned_abs v ≤ MOST_UNITS) values
      → AreSpelled names (map value_slot (range_with_len start (length values))) (map (peaked_value_fields names) (enumerate_from start values)) (map value_item values)
  values_spelled start [] l h = tt
  values_spelled start (v ∷ values) l h =
      let most : unsigned_abs v ≤ MOST_UNITS = All-head (λ (z : ℤ). unsigned_abs z ≤ MOST_UNITS) v values h in (
        ((v, refl, record { name = name_at names start; text = signed_decimal v; spells = refl; group = name_there names start (omega (arith, l)); number = IsSigned-decimal v (omega (arith, most)) }), most),
        values_spelled (start + 1) values (omega (arith, l)) (All-tail (λ (z : ℤ). unsigned_abs z ≤ MOST_UNITS) v values h),
      )

  last_spelled : (place : ℕ) (step : ℤ × ℤ) → place < length names → step.1 ≡ pos 0 → IsStepInLimits step → SpellsSlot names (last_slot place) (step_fields names (place, step)) (step_told step)
  last_spelled place step l e h =
      let free : unsigned_abs step.1 ≡ 0 = ap unsigned_abs e in (
        step.0,
        ap (λ (z : ℤ). step_item step.0 z) e,
        record {
          name = name_at names place;
          text = signed_decimal step.0;
          spells = ap (λ (k : ℕ). codes "step" ∷ name_at names place ∷ signed_decimal step.0 ∷ decimal k ∷ []) free ∙ ap (λ (t : List ℕ). codes "step" ∷ name_at names place ∷ signed_decimal step.0 ∷ t ∷ []) zero_text;
          group = name_there names place l;
          number = IsSigned-decimal step.0 (omega (arith, h.value));
        },
      )

  step_spelled : (place : ℕ) (step : ℤ × ℤ) → place < length names → pos 0 ≤ℤ step.1 → IsStepInLimits step → SpellsSlot names (step_slot place) (step_fields names (place, step)) (step_told step)
  step_spelled place step l e h = (
    step.0,
    step.1,
    refl,
    record {
      name = name_at names place;
      text = signed_decimal step.0;
      size_text = decimal (unsigned_abs step.1);
      size = unsigned_abs step.1;
      spells = refl;
      group = name_there names place l;
      number = IsSigned-decimal step.0 (omega (arith, h.value));
      whole = IsWhole-decimal (unsigned_abs step.1) (omega (arith, h.amount));
      is_size = natural step.1 e;
    },
  )

  steps_spelled : (start more final : ℕ) (side : List (ℤ × ℤ)) → final ≡ start + more → length side ≡ suc more → start + length side ≤ length names → All (λ step. pos 0 ≤ℤ step.1) side → IfSome (slice_get side (length side - 1)) (λ step. step.1 ≡ pos 0) → All IsStepInLimits side
      → AreSpelled names (map step_slot (range_with_len start more) ++ last_slot final ∷ []) (map (step_fields names) (enumerate_from start side)) (map step_told side)
  steps_spelled start more final [] e n l a z h = absurd (omega (arith, n))
  steps_spelled start zero final (step ∷ []) e n l a z h =
      let at : start ≡ final = omega (arith, e) in
      let most : IsStepInLimits step = All-head IsStepInLimits step [] h in
      ((subst (λ (p : ℕ). SpellsSlot names (last_slot p) (step_fields names (start, step)) (step_told step)) at (last_spelled start step (omega (arith, l)) z most), (most.value, most.amount)), tt)
  steps_spelled start (suc more) final (step ∷ []) e n l a z h = absurd (omega (arith, n))
  steps_spelled start zero final (step ∷ next ∷ side) e n l a z h = absurd (omega (arith, n))
  steps_spelled start (suc more) final (step ∷ next ∷ side) e n l a z h =
      let most : IsStepInLimits step = All-head IsStepInLimits step (next ∷ side) h in
      let back : length (step ∷ next ∷ side) - 1 ≡ suc (length (next ∷ side) - 1) = omega arith in
      let last : IfSome (slice_get (next ∷ side) (length (next ∷ side) - 1)) (λ s. s.1 ≡ pos 0) = subst (λ (k : ℕ). IfSome (slice_get (step ∷ next ∷ side) k) (λ s. s.1 ≡ pos 0)) back z in (
        (step_spelled start step (omega (arith, l)) (All-head (λ (s : ℤ × ℤ). pos 0 ≤ℤ s.1) step (next ∷ side) a) most, (most.value, most.amount)),
        steps_spelled (start + 1) more final (next ∷ side) (omega (arith, e)) (omega (arith, n)) (omega (arith, l)) (All-tail (λ (s : ℤ × ℤ). pos 0 ≤ℤ s.1) step (next ∷ side) a) last (All-tail IsStepInLimits step (next ∷ side) h),
      )

  side_fits : (slope : Slope) (n k : ℕ) → k < n → side_start slope k + suc (steps_before_last slope n k) ≤ n
  side_fits Rise n k l = omega (arith, l)
  side_fits Fall n k l = omega (arith, l)

  side_spelled : (slope : Slope) (k : ℕ) (side : List (ℤ × ℤ)) → k < length names → IsSide (suc (steps_before_last slope (length names) k)) side → All IsStepInLimits side
      → AreSpelled names (side_slots slope (length names) k) (side_records names slope (k, side)) (side_items side)
  side_spelled slope k side l s h = (
    ((refl, refl), tt),
    steps_spelled (side_start slope k) (steps_before_last slope (length names) k) (side_start slope k + steps_before_last slope (length names) k) side refl s.count (omega (arith, s.count, side_fits slope (length names) k l)) s.amounts s.last h,
  )

  sides_spelled : (slope : Slope) (k : ℕ) (sides : List (List (ℤ × ℤ))) → k + length sides ≤ length names → ((j : ℕ) → j < length sides → IsSide (suc (steps_before_last slope (length names) (k + j))) (get_or sides j [])) → All (λ side. All IsStepInLimits side) sides
      → AreSpelled names (flat_map (side_slots slope (length names)) (range_with_len k (length sides))) (flat_map (side_records names slope) (enumerate_from k sides)) (flat_map side_items sides)
  sides_spelled slope k [] l s h = tt
  sides_spelled slope k (side ∷ sides) l s h =
      let here : k + 0 ≡ k = omega arith in
      let first = side_spelled slope k side (omega (arith, l)) (subst (λ (i : ℕ). IsSide (suc (steps_before_last slope (length names) i)) side) here (s 0 (omega arith))) (All-head (λ (t : List (ℤ × ℤ)). All IsStepInLimits t) side sides h) in
      let rest = sides_spelled slope (k + 1) sides (omega (arith, l))
      (λ j m. let next : k + suc j ≡ k + 1 + j = omega arith in subst (λ (i : ℕ). IsSide (suc (steps_before_last slope (length names) i)) (get_or sides j [])) next (s (suc j) (omega (arith, m))))
      (All-tail (λ (t : List (ℤ × ℤ)). All IsStepInLimits t) side sides h) in
      spelled_then names (side_slots slope (length names) k) (flat_map (side_slots slope (length names)) (range_with_len (k + 1) (length sides))) (side_records names slope (k, side)) (flat_map (side_records names slope) (enumerate_from (k + 1) sides))
      (side_items side) (flat_map side_items sides) first rest

  -- each record has a field
  abbrev HasField : List (List ℕ) → Type 0
  HasField fields = fields ≢ []

  peak_field : (fields : List (List ℕ)) (at : Option ℕ) (cost : ℕ) → SpellsPeak names fields at cost → HasField fields
  peak_field fields None cost s e = absurd (let f = s.spells in cc)
  peak_field fields (Some k) cost s e = absurd (let f = s.spells in cc)

  slot_field : (slot : Slot) (fields : List (List ℕ)) (item : Item) → SpellsSlot names slot fields item → HasField fields
  slot_field peak_slot fields item s e = peak_field fields s.0 s.1 s.3 e
  slot_field (value_slot place) fields item s e = absurd (let f = s.2.spells in cc)
  slot_field (side_slot slope k) fields item s e = absurd (let f = s.1 in cc)
  slot_field (step_slot place) fields item s e = absurd (let f = s.3.spells in cc)
  slot_field (last_slot place) fields item s e = absurd (let f = s.2.spells in cc)
  slot_field end_slot fields item s e = absurd (let f = s.1 in cc)

  fields_there : (ss : List Slot) (rows : Rows) (items : List Item) → AreSpelled names ss rows items → All HasField rows
  fields_there [] [] [] h = All-nil HasField
  fields_there [] [] (x ∷ items) h = absurd h
  fields_there [] (row ∷ rows) items h = absurd h
  fields_there (s ∷ ss) [] items h = absurd h
  fields_there (s ∷ ss) (row ∷ rows) [] h = absurd h
  fields_there (s ∷ ss) (row ∷ rows) (x ∷ items) h = All-cons HasField row rows (slot_field s row x h.0.0) (fields_there ss rows items h.1)

  module _ (x : Peaked) (shaped : IsShaped (length names) x) (limits : IsInLimits x) where
    slope_sides : (slope : Slope) → All (λ side. All IsStepInLimits side) (sides_of slope x) → AreSpelled names (sides_slots slope (length names)) (sides_records names slope (sides_of slope x)) (flat_map side_items (sides_of slope x))
    slope_sides slope h =
        let n = length names in
        let count = sides_count n x shaped slope in
        subst (λ (m : ℕ). AreSpelled names (flat_map (side_slots slope n) (range_with_len 0 m)) (sides_records names slope (sides_of slope x)) (flat_map side_items (sides_of slope x))) count
        (sides_spelled slope 0 (sides_of slope x) (omega (arith, count))
        (λ j m. let at : j ≡ 0 + j = omega arith in
        subst (λ (i : ℕ). IsSide (suc (steps_before_last slope n i)) (get_or (sides_of slope x) j [])) at
        (side_so n x shaped slope j (get_or (sides_of slope x) j []) (omega (arith, m, count)) (slice_get-get_or (sides_of slope x) j [] m))) h)

    abbrev others : Rows
    others = peak_fields names x.peak x.cost ∷ (value_records names x.values ++ (sides_records names Rise x.rises ++ (sides_records names Fall x.falls ++ end_fields ∷ [])))

    all_spelled : AreSpelled names (slots (length names)) others (items_of x)
    all_spelled =
        let n = length names in
        let values = subst (λ (m : ℕ). AreSpelled names (map value_slot (range_with_len 0 m)) (value_records names x.values) (map value_item x.values)) shaped.values (values_spelled 0 x.values (omega (arith, shaped.values)) limits.values) in
        let rises = slope_sides Rise limits.rises in
        let falls = slope_sides Fall limits.falls in
        let ends : AreSpelled names (end_slot ∷ []) (end_fields ∷ []) (end_item ∷ []) = (((refl, refl), tt), tt) in (
          ((x.peak, x.cost, refl, peak_spelled x.peak x.cost shaped.peak limits.nothing limits.cost), limits.cost),
          spelled_then names (value_slots n) (sides_slots Rise n ++ (sides_slots Fall n ++ end_slot ∷ [])) (value_records names x.values) (sides_records names Rise x.rises ++ (sides_records names Fall x.falls ++ end_fields ∷ []))
              (map value_item x.values) (flat_map side_items x.rises ++ (flat_map side_items x.falls ++ end_item ∷ [])) values
              (spelled_then names (sides_slots Rise n) (sides_slots Fall n ++ end_slot ∷ []) (sides_records names Rise x.rises) (sides_records names Fall x.falls ++ end_fields ∷ []) (flat_map side_items x.rises) (flat_map side_items x.falls ++ end_item ∷ []) rises
              (spelled_then names (sides_slots Fall n) (end_slot ∷ []) (sides_records names Fall x.falls) (end_fields ∷ []) (flat_map side_items x.falls) (end_item ∷ []) falls ends)),
        )

    header_good : IsPeakedHeader (peaked_header_fields x.places) x.places
    header_good = record { text = decimal x.places; spells = refl; number = IsWhole-decimal x.places (omega (arith, shaped.places)); most = shaped.places }

    taken : Takes names (slots (length names)) (items_of x) 1 others (1 + length others) []
    taken = record { done = others; parted = sym (append-nil others); spelled = all_spelled; counted = refl }

    first_field : HasField (peaked_header_fields x.places)
    first_field e = absurd (cc)

    unmarked : without_marks (peaked_text names x) ≡ peaked_text names x
    unfolding records_text
    unmarked = no_mark 111 _ (λ e. absurd (omega (arith, e)))

    pub peaked_read_back : PeakedRead names (records_of (peaked_text names x)) (Ok x)
    peaked_read_back =
        subst (λ (rows : Rows). PeakedRead names rows (Ok x)) (sym (read_back_all (peaked_records names x) (All-cons HasField (peaked_header_fields x.places) others first_field (fields_there (slots (length names)) others (items_of x) all_spelled)) unmarked))
        (whole_read names x.places (peaked_records names x) (peaked_header_fields x.places) others refl header_good x (1 + length others) taken shaped refl)
