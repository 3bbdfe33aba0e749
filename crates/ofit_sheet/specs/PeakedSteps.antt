-- The reading of a peaked sheet's records part by part.
use Rattle.std.specs.Prelude.{◌≡◌, ◌<◌, ◌+◌, ℕ, suc, ℤ, List, [], ◌∷◌, ◌++◌, length, slice_index_or, Result, Ok, Err, ⊤}
use Rattle.ofit_sheet.specs.declared.fault.RecordFault.{RecordFault}
use Rattle.ofit_sheet.specs.declared.fault.RecordFault.TheVariants.{Bad, TooLarge}
use Rattle.ofit_sheet.specs.declared.fault.SheetFault.{SheetFault}
use Rattle.ofit_sheet.specs.declared.fault.SheetFault.TheVariants as fault
use Rattle.ofit_sheet.specs.Reading.{IsReading}
use Rattle.ofit_sheet.specs.declared.peaked.slope.Slope.{Slope}
use Rattle.ofit_sheet.specs.Frame.{HasBadHeader}
use Rattle.ofit_sheet.specs.Peaked.{IsSide}
use Rattle.ofit_sheet.specs.Slots.{Slot, steps_before_last}
use Rattle.ofit_sheet.specs.PeakedRead.{Item, IsPeakedHeader, SpellsSlot, IsWithinLimits}

-- the reading of a thing that tells an item
abbrev pub told_by : {X : Type 0} → (X → Item) → Result X RecordFault → Result Item RecordFault
told_by told (Ok x) = Ok (told x)
told_by told (Err f) = Err f

-- what a record with these fields gives that has to be the slot's
abbrev pub SlotRead : {X : Type 0} → List (List ℕ) → Slot → List (List ℕ) → (X → Item) → Result X RecordFault → Type 0
SlotRead names slot fields told result = IsReading (SpellsSlot names slot fields) IsWithinLimits (told_by told result)

-- records that are what the slots ask for, within their limits
abbrev pub AreSpelled : List (List ℕ) → List Slot → List (List (List ℕ)) → List Item → Type 0
AreSpelled names [] [] [] = ⊤
AreSpelled names (slot ∷ slots) (fields ∷ rows) (item ∷ items) = (SpellsSlot names slot fields item × IsWithinLimits item) × AreSpelled names slots rows items
AreSpelled names slots rows items = ⊥

-- the first records are what the slots ask for: the number of the last record read, and the records to come, before and after
pub record Takes (names : List (List ℕ)) (slots : List Slot) (items : List Item) (number : ℕ) (rows : List (List (List ℕ))) (later : ℕ) (left : List (List (List ℕ))) : Type 0 where
  pub done : List (List (List ℕ))
  pub parted : rows ≡ done ++ left
  pub spelled : AreSpelled names slots done items
  pub counted : later ≡ number + length done

-- the first record that isn't what its slot asks for, and its number
pub record StopsIn (names : List (List ℕ)) (slots : List Slot) (number : ℕ) (rows : List (List (List ℕ))) (at : ℕ) (IsFault : Slot → List (List ℕ) → Type 0) : Type 0 where
  pub before : List Slot
  pub slot : Slot
  pub behind : List Slot
  pub asked : slots ≡ before ++ slot ∷ behind
  pub done : List (List (List ℕ))
  pub fields : List (List ℕ)
  pub after : List (List (List ℕ))
  pub parted : rows ≡ done ++ fields ∷ after
  pub items : List Item
  pub spelled : AreSpelled names before done items
  pub counted : at ≡ number + length done + 1
  pub fault : IsFault slot fields

-- the records end before a slot
pub record EndsIn (names : List (List ℕ)) (slots : List Slot) (rows : List (List (List ℕ))) : Type 0 where
  pub before : List Slot
  pub slot : Slot
  pub behind : List Slot
  pub asked : slots ≡ before ++ slot ∷ behind
  pub items : List Item
  pub spelled : AreSpelled names before rows items

-- the record says nothing that the slot asks for
abbrev pub SaysNothing : List (List ℕ) → Slot → List (List ℕ) → Type 0
SaysNothing names slot fields = (item : Item) → SpellsSlot names slot fields item → ⊥

-- it says what the slot asks for, beyond the limits
pub record SaysTooMuch (names : List (List ℕ)) (slot : Slot) (fields : List (List ℕ)) : Type 0 where
  pub item : Item
  pub spells : SpellsSlot names slot fields item
  pub beyond : IsWithinLimits item → ⊥

abbrev pub PartFault : List (List ℕ) → List Slot → ℕ → List (List (List ℕ)) → SheetFault → Type 0
PartFault names slots number rows (fault.BadRecord at) = StopsIn names slots number rows at (SaysNothing names)
PartFault names slots number rows (fault.NumberTooLarge at) = StopsIn names slots number rows at (SaysTooMuch names)
PartFault names slots number rows fault.NoEnd = EndsIn names slots rows
PartFault names slots number rows fault.Memory = ⊤
PartFault names slots number rows other = ⊥

-- what the reading of the records gives that have to be what the slots ask for
abbrev pub PartRead : {X : Type 0} → List (List ℕ) → List Slot → (X → List Item) → ℕ → List (List (List ℕ)) → ℕ → List (List (List ℕ)) → Result X SheetFault → Type 0
PartRead names slots told number rows later left (Ok x) = Takes names slots (told x) number rows later left
PartRead names slots told number rows later left (Err f) = PartFault names slots number rows f

-- what a fault of the record of this number is to a sheet
abbrev pub fault_of : ℕ → RecordFault → SheetFault
fault_of number Bad = fault.BadRecord number
fault_of number TooLarge = fault.NumberTooLarge number

-- the next record, of which there may be none
abbrev pub Advances : ℕ → List (List (List ℕ)) → List (List ℕ) → ℕ → List (List (List ℕ)) → Result Unit SheetFault → Type 0
Advances number rows fields later left (Ok u) = (rows ≡ fields ∷ left) × (later ≡ number + 1)
Advances number rows fields later left (Err fault.NoEnd) = rows ≡ []
Advances number rows fields later left (Err fault.Memory) = ⊤
Advances number rows fields later left (Err other) = ⊥

-- the header, behind which others are left
abbrev pub PlacesRead : ℕ → List (List (List ℕ)) → ℕ → List (List (List ℕ)) → Result ℕ SheetFault → Type 0
PlacesRead number rows later left (Ok places) = (first : List (List ℕ)) × (rows ≡ first ∷ left) × IsPeakedHeader first places × (later ≡ number + 1)
PlacesRead number rows later left (Err fault.BadHeader) = HasBadHeader IsPeakedHeader rows
PlacesRead number rows later left (Err fault.Memory) = ⊤
PlacesRead number rows later left (Err other) = ⊥

-- the sides of a slope are as long as those of n groups
abbrev pub HasSides : Slope → ℕ → List (List (ℤ × ℤ)) → Type 0
HasSides slope n sides = (k : ℕ) → k < n → IsSide (suc (steps_before_last slope n k)) (slice_index_or sides k [])
