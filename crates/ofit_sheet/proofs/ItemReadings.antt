-- What the fields of a record give is what the record gives, where a record of its kind may stand.
use Rattle.std.proofs.Common.{◌≡◌, ℕ, ◌≤◌, ℤ, Bool, true, List, [], ◌∷◌, ◌++◌, length, Option, Err, refl, sym, ap, subst, ◌∙◌, arith}
use Rattle.std.specs.Prelude.{unsigned_abs}
use Rattle.ofit_num.specs.Fraction.{Fraction, IsLowest}
use Rattle.ofit_num.specs.Reduced.{InLimits}
use Rattle.ofit_study.specs.Settings.{IsBoundInLimits, InOrder}
use Rattle.ofit_sheet.specs.declared.size.Size as size
use Rattle.ofit_sheet.specs.declared.draft.Draft.{Draft}
use Rattle.ofit_sheet.specs.declared.fields.Kind.TheVariants as kind
use Rattle.ofit_sheet.specs.declared.fault.RecordFault.{RecordFault}
use Rattle.ofit_sheet.specs.declared.item.Item.{Item}
use Rattle.ofit_sheet.specs.declared.item.Item.TheVariants as it
use Rattle.ofit_sheet.specs.Kept.{IsSizeInLimits, most_amount}
use Rattle.ofit_sheet.specs.Reading.{IsReading}
use Rattle.ofit_sheet.specs.Frame.{AreGood}
use Rattle.ofit_sheet.specs.Rules.{values_of, flows_of, leading, IsAllowed, IsWithinLimits, sheet_rules}
use Rattle.ofit_sheet.specs.Spelling.{SpellsBounds, SpellsSize, SpellsValue, SpellsFlow}
use Rattle.ofit_sheet.specs.Steps.{Follows, IsItem}
use Rattle.ofit_sheet.specs.Told.{Told, seen, told_of, told_with, place_after}
use Rattle.ofit_sheet.proofs.Readings.{fault_moved}
use Rattle.ofit_sheet.proofs.Telling.{all_before, next_place, good_rising, told-push}

module _ (names : List (List ℕ)) (sized : Bool) (items : List Item) (first second third : List ℕ) where
  abbrev P-bounds : Option ℤ × Option ℤ → Type 0
  P-bounds b = SpellsBounds first second third b.0 b.1 × InOrder b.0 b.1

  abbrev W-bounds : Option ℤ × Option ℤ → Type 0
  W-bounds b = IsBoundInLimits b.0 × IsBoundInLimits b.1

  no_bounds : (item : Item) → IsItem names sized items kind.Bounds first second third item → ((b : Option ℤ × Option ℤ) → P-bounds b → ⊥) → ⊥
  no_bounds (it.Bounds lo hi) i h = h (lo, hi) (i.spelled, i.allowed.1)
  no_bounds (it.Size z) i h = absurd (let k = i.is_kind in cc)
  no_bounds (it.Value p v) i h = absurd (let k = i.is_kind in cc)
  no_bounds (it.Flow low high amount) i h = absurd (let k = i.is_kind in cc)
  no_bounds it.End i h = absurd (let k = i.is_kind in cc)

  pub bounds_fault : (fault : RecordFault) → items ≡ [] → IsReading {X = Option ℤ × Option ℤ} P-bounds W-bounds (Err fault) → IsReading {X = Item} (λ item. IsItem names sized items kind.Bounds first second third item) IsWithinLimits (Err fault)
  bounds_fault fault none h =
      fault_moved P-bounds W-bounds (λ (item : Item). IsItem names sized items kind.Bounds first second third item) IsWithinLimits fault no_bounds
      (λ b s w. (it.Bounds b.0 b.1, record { is_kind = refl; spelled = s.0; allowed = (none, s.1) }, w)) h

  abbrev P-size : size.Size → Type 0
  P-size z = SpellsSize first second third z.rows z.weight

  no_size : (item : Item) → IsItem names sized items kind.Size first second third item → ((z : size.Size) → P-size z → ⊥) → ⊥
  no_size (it.Bounds lo hi) i h = absurd (let k = i.is_kind in cc)
  no_size (it.Size z) i h = h z i.spelled
  no_size (it.Value p v) i h = absurd (let k = i.is_kind in cc)
  no_size (it.Flow low high amount) i h = absurd (let k = i.is_kind in cc)
  no_size it.End i h = absurd (let k = i.is_kind in cc)

  pub size_fault : (fault : RecordFault) → sized ≡ true → length items ≡ 1 → IsReading {X = size.Size} P-size (λ z. IsSizeInLimits z.rows z.weight) (Err fault)
      → IsReading {X = Item} (λ item. IsItem names sized items kind.Size first second third item) IsWithinLimits (Err fault)
  size_fault fault is_sized one h =
      fault_moved P-size (λ (z : size.Size). IsSizeInLimits z.rows z.weight) (λ (item : Item). IsItem names sized items kind.Size first second third item) IsWithinLimits fault no_size
      (λ z s w. (it.Size z, record { is_kind = refl; spelled = s; allowed = (is_sized, one) }, w)) h

  abbrev P-flow : ℕ × ℕ × ℤ → Type 0
  P-flow f = SpellsFlow names first second third f.0 f.1 f.2

  no_flow : (item : Item) → IsItem names sized items kind.Flow first second third item → ((f : ℕ × ℕ × ℤ) → P-flow f → ⊥) → ⊥
  no_flow (it.Bounds lo hi) i h = absurd (let k = i.is_kind in cc)
  no_flow (it.Size z) i h = absurd (let k = i.is_kind in cc)
  no_flow (it.Value p v) i h = absurd (let k = i.is_kind in cc)
  no_flow (it.Flow low high amount) i h = h (low, high, amount) i.spelled
  no_flow it.End i h = absurd (let k = i.is_kind in cc)

  pub flow_fault : (fault : RecordFault) → leading sized ≤ length items → IsReading {X = ℕ × ℕ × ℤ} P-flow (λ f. unsigned_abs f.2 ≤ most_amount) (Err fault)
      → IsReading {X = Item} (λ item. IsItem names sized items kind.Flow first second third item) IsWithinLimits (Err fault)
  flow_fault fault led h =
      fault_moved P-flow (λ (f : ℕ × ℕ × ℤ). unsigned_abs f.2 ≤ most_amount) (λ (item : Item). IsItem names sized items kind.Flow first second third item) IsWithinLimits fault no_flow
      (λ f s w. (it.Flow f.0 f.1 f.2, record { is_kind = refl; spelled = s; allowed = led }, w)) h

  module _ (least : ℕ) (is_least : least ≡ place_after 0 (values_of items)) where
    abbrev P-value : ℕ × Fraction → Type 0
    P-value v = SpellsValue names first second third v.0 v.1 × (least ≤ v.0) × (InLimits v.1 → IsLowest v.1)

    no_value : (item : Item) → IsItem names sized items kind.Value first second third item → ((v : ℕ × Fraction) → P-value v → ⊥) → ⊥
    no_value (it.Bounds lo hi) i h = absurd (let k = i.is_kind in cc)
    no_value (it.Size z) i h = absurd (let k = i.is_kind in cc)
    no_value (it.Value p v) i h = h (p, v) (i.spelled, subst (λ (n : ℕ). n ≤ p) (sym is_least) (next_place 0 (values_of items) p (omega arith) i.allowed.1.rises), i.allowed.1.lowest)
    no_value (it.Flow low high amount) i h = absurd (let k = i.is_kind in cc)
    no_value it.End i h = absurd (let k = i.is_kind in cc)

    module _ (rows : List (List (List ℕ))) (good : AreGood (sheet_rules names sized) [] rows items) (led : leading sized ≤ length items) (unflowed : flows_of items ≡ []) where
      pub value_stands : (v : ℕ × Fraction) → P-value v → IsItem names sized items kind.Value first second third (it.Value v.0 v.1)
      value_stands v s = record {
        is_kind = refl;
        spelled = s.0;
        allowed = (led, record { no_flow = unflowed; rises = (all_before 0 (values_of items) v.0 (good_rising names sized [] rows items good) (subst (λ (n : ℕ). n ≤ v.0) is_least s.1)).0; lowest = s.2 });
      }

      pub value_fault : (fault : RecordFault) → IsReading {X = ℕ × Fraction} P-value (λ v. InLimits v.1) (Err fault) → IsReading {X = Item} (λ item. IsItem names sized items kind.Value first second third item) IsWithinLimits (Err fault)
      value_fault fault h =
          fault_moved P-value (λ (v : ℕ × Fraction). InLimits v.1) (λ (item : Item). IsItem names sized items kind.Value first second third item) IsWithinLimits fault no_value
          (λ v s w. (it.Value v.0 v.1, value_stands v s, w)) h

-- what a draft that follows the records holds
module _ (names : List (List ℕ)) (sized : Bool) (rows : List (List (List ℕ))) (items : List Item) (draft : Draft) (f : Follows names sized rows items draft) where
  pub count_is : draft.count ≡ length items
  count_is = ap (λ (t : Told). t.count) f.told

  pub flows_are : draft.flows.items ≡ flows_of items
  flows_are = ap (λ (t : Told). t.flows) f.told

  pub no_flows : draft.flows.items ≡ [] → flows_of items ≡ []
  no_flows e = sym flows_are ∙ e

  pub least_is : draft.least ≡ place_after 0 (values_of items)
  least_is = ap (λ (t : Told). t.least) f.told

  pub none_counted : draft.count ≡ 0 → items ≡ []
  none_counted e = go items (sym count_is ∙ e) where
    go : (xs : List Item) → length xs ≡ 0 → xs ≡ []
    go [] h = refl
    go (x ∷ xs) h = absurd (omega (arith, h))

  pub told_more : (item : Item) (after : Draft) → IsAllowed sized items item → seen after ≡ told_with (seen draft) item → seen after ≡ told_of (items ++ item ∷ [])
  told_more item after a e = e ∙ ap (λ (t : Told). told_with t item) f.told ∙ sym (told-push names sized rows items item f.good a)
