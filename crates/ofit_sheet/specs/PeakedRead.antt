-- How the records of a peaked sheet are read, for a study with these group names.
use Rattle.std.specs.Prelude.{◌≡◌, ◌≤◌, ℕ, ℤ, pos, List, [], ◌∷◌, ◌++◌, map, length, Bool, true, false, Option, Some, None, Result, codes, slice_get, unsigned_abs, ⊤}
use Rattle.std.specs.List.{flat_map, list_any}
use Rattle.ofit_num.specs.NumberText.{IsWhole, IsSigned}
use Rattle.ofit_num.specs.declared.limits.TheConstants.{MOST_UNITS}
use Rattle.ofit_sheet.specs.declared.fault.SheetFault.{SheetFault}
use Rattle.ofit_sheet.specs.Kept.{most_amount}
use Rattle.ofit_study.specs.declared.loss.LossKind.TheVariants.{Median}
use Rattle.ofit_study.specs.FieldText.{dash}
use Rattle.ofit_study.specs.Loss.{loss_text}
use Rattle.ofit_sheet.specs.SheetText.{end_fields}
use Rattle.ofit_sheet.specs.Peaked.{Peaked, IsShaped, most_cost}
use Rattle.ofit_sheet.specs.PeakedText.{side_fields}
use Rattle.ofit_sheet.specs.Slots.{Slot, peak_slot, value_slot, side_slot, step_slot, last_slot, end_slot, slots}
use Rattle.ofit_sheet.specs.Frame.{Rules, Grammar, FrameRead}

-- what a record behind the header says: the peak and the cost, a value, that a side begins, the value and the amount of a step, the end
pub data Item : Type 0 where
  peak_item : Option ℕ → ℕ → Item
  value_item : ℤ → Item
  side_item : Item
  step_item : ℤ → ℤ → Item
  end_item : Item

pub record IsPeakedHeader (fields : List (List ℕ)) (places : ℕ) : Type 0 where
  pub text : List ℕ
  pub spells : fields ≡ codes "ofit-peaked" ∷ codes "1" ∷ loss_text Median ∷ text ∷ []
  pub number : IsWhole text places
  pub most : places ≤ 6

-- without groups there is no peak, and the cost is 0
pub record SpellsNoPeak (names : List (List ℕ)) (fields : List (List ℕ)) (cost : ℕ) : Type 0 where
  pub nothing : names ≡ []
  pub free : cost ≡ 0
  pub spells : fields ≡ codes "peak" ∷ dash ∷ codes "0" ∷ dash ∷ []

pub record SpellsPeakAt (names : List (List ℕ)) (fields : List (List ℕ)) (place cost : ℕ) : Type 0 where
  pub name : List ℕ
  pub text : List ℕ
  pub spells : fields ≡ codes "peak" ∷ name ∷ text ∷ dash ∷ []
  pub group : slice_get names place ≡ Some name
  pub number : IsWhole text cost

abbrev pub SpellsPeak : List (List ℕ) → List (List ℕ) → Option ℕ → ℕ → Type 0
SpellsPeak names fields None cost = SpellsNoPeak names fields cost
SpellsPeak names fields (Some place) cost = SpellsPeakAt names fields place cost

-- the value of the group at the place
pub record SpellsPlainValue (names : List (List ℕ)) (place : ℕ) (fields : List (List ℕ)) (value : ℤ) : Type 0 where
  pub name : List ℕ
  pub text : List ℕ
  pub spells : fields ≡ codes "value" ∷ name ∷ text ∷ dash ∷ []
  pub group : slice_get names place ≡ Some name
  pub number : IsSigned text value

-- the value and the amount of the step of the group at the place
pub record SpellsStep (names : List (List ℕ)) (place : ℕ) (fields : List (List ℕ)) (value amount : ℤ) : Type 0 where
  pub name : List ℕ
  pub text : List ℕ
  pub size_text : List ℕ
  pub size : ℕ
  pub spells : fields ≡ codes "step" ∷ name ∷ text ∷ size_text ∷ []
  pub group : slice_get names place ≡ Some name
  pub number : IsSigned text value
  pub whole : IsWhole size_text size
  pub is_size : amount ≡ pos size

-- the last step of a side has the amount 0
pub record SpellsLastStep (names : List (List ℕ)) (place : ℕ) (fields : List (List ℕ)) (value : ℤ) : Type 0 where
  pub name : List ℕ
  pub text : List ℕ
  pub spells : fields ≡ codes "step" ∷ name ∷ text ∷ codes "0" ∷ []
  pub group : slice_get names place ≡ Some name
  pub number : IsSigned text value

-- what a record says that is the one that it has to be
abbrev pub SpellsSlot : List (List ℕ) → Slot → List (List ℕ) → Item → Type 0
SpellsSlot names peak_slot fields item = (place : Option ℕ) × (cost : ℕ) × (item ≡ peak_item place cost) × SpellsPeak names fields place cost
SpellsSlot names (value_slot place) fields item = (value : ℤ) × (item ≡ value_item value) × SpellsPlainValue names place fields value
SpellsSlot names (side_slot slope k) fields item = (item ≡ side_item) × (fields ≡ side_fields slope k)
SpellsSlot names (step_slot place) fields item = (value : ℤ) × (amount : ℤ) × (item ≡ step_item value amount) × SpellsStep names place fields value amount
SpellsSlot names (last_slot place) fields item = (value : ℤ) × (item ≡ step_item value (pos 0)) × SpellsLastStep names place fields value
SpellsSlot names end_slot fields item = (item ≡ end_item) × (fields ≡ end_fields)

-- the next record behind so many others
pub record SpellsNext (names : List (List ℕ)) (before : List Item) (fields : List (List ℕ)) (item : Item) : Type 0 where
  pub slot : Slot
  pub next : slice_get (slots (length names)) (length before) ≡ Some slot
  pub spells : SpellsSlot names slot fields item

abbrev pub IsWithinLimits : Item → Type 0
IsWithinLimits (peak_item place cost) = cost ≤ most_cost
IsWithinLimits (value_item value) = unsigned_abs value ≤ MOST_UNITS
IsWithinLimits side_item = ⊤
IsWithinLimits (step_item value amount) = (unsigned_abs value ≤ MOST_UNITS) × (unsigned_abs amount ≤ most_amount)
IsWithinLimits end_item = ⊤

abbrev pub is_end : Item → Bool
is_end (peak_item place cost) = false
is_end (value_item value) = false
is_end side_item = false
is_end (step_item value amount) = false
is_end end_item = true

abbrev pub peaked_rules : List (List ℕ) → Rules Item
peaked_rules names = record {
  Spells = SpellsNext names;
  IsWithin = IsWithinLimits;
  has_end = list_any is_end;
}

abbrev pub peaked_grammar : List (List ℕ) → Grammar ℕ Item
peaked_grammar names = record {
  IsHeader = IsPeakedHeader;
  rules = λ places. peaked_rules names;
}

-- what the records behind the header say of a peaked sheet
abbrev pub step_told : ℤ × ℤ → Item
step_told step = step_item step.0 step.1

abbrev pub side_items : List (ℤ × ℤ) → List Item
side_items side = side_item ∷ map step_told side

abbrev pub items_of : Peaked → List Item
items_of x = peak_item x.peak x.cost ∷ (map value_item x.values ++ (flat_map side_items x.rises ++ (flat_map side_items x.falls ++ end_item ∷ [])))

-- the peaked sheet of these decimal places and records
pub record IsPeakedOf (names : List (List ℕ)) (places : ℕ) (items : List Item) (x : Peaked) : Type 0 where
  pub header : x.places ≡ places
  pub told : items ≡ items_of x
  pub shaped : IsShaped (length names) x

-- what a reading answers
abbrev pub PeakedRead : List (List ℕ) → List (List (List ℕ)) → Result Peaked SheetFault → Type 0
PeakedRead names rows result = FrameRead (peaked_grammar names) (IsPeakedOf names) rows result
