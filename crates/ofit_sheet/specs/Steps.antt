-- The reading of a sheet's records one by one.
use Rattle.std.specs.Prelude.{◌≡◌, ◌+◌, ◌++◌, ◌∷◌, ℕ, List, [], length, Bool, Result, Ok, Err, ⊤}
use Rattle.ofit_sheet.specs.declared.draft.Draft.{Draft}
use Rattle.ofit_sheet.specs.declared.fault.RecordFault.{RecordFault}
use Rattle.ofit_sheet.specs.declared.fault.SheetFault.{SheetFault}
use Rattle.ofit_sheet.specs.declared.fault.SheetFault.TheVariants as fault
use Rattle.ofit_sheet.specs.declared.fields.Kind.{Kind}
use Rattle.ofit_sheet.specs.declared.header.Header.{Header}
use Rattle.ofit_sheet.specs.declared.item.Item.{Item}
use Rattle.ofit_sheet.specs.Reading.{IsReading}
use Rattle.ofit_sheet.specs.Frame.{IsGood, AreGood, IsAfterEnd, IsBad, IsTooLarge, Rules, HasBadHeader}
use Rattle.ofit_sheet.specs.Rules.{IsAllowed, IsWithinLimits, sheet_rules}
use Rattle.ofit_sheet.specs.Spelling.{IsHeader, kind_in, FieldsSpell, Spells}
use Rattle.ofit_sheet.specs.Told.{seen, told_of}

-- the records so far are good, and the draft holds what they told
pub record Follows (names : List (List ℕ)) (sized : Bool) (rows : List (List (List ℕ))) (items : List Item) (draft : Draft) : Type 0 where
  pub good : AreGood (sheet_rules names sized) [] rows items
  pub told : seen draft ≡ told_of items

-- a record of this kind with these fields behind it, where it may stand
pub record IsItem (names : List (List ℕ)) (sized : Bool) (before : List Item) (kind : Kind) (first second third : List ℕ) (item : Item) : Type 0 where
  pub is_kind : kind_in item ≡ kind
  pub spelled : FieldsSpell names first second third item
  pub allowed : IsAllowed sized before item

-- what a record of this kind with these fields behind it gives, behind records that a draft follows
abbrev pub KindRead : List (List ℕ) → Bool → Draft → Kind → List ℕ → List ℕ → List ℕ → Result Item RecordFault → Type 0
KindRead names sized draft kind first second third result =
    (rows : List (List (List ℕ))) (items : List Item) → Follows names sized rows items draft → IsReading (IsItem names sized items kind first second third) IsWithinLimits result

-- what any record with these fields gives there
abbrev pub ItemRead : List (List ℕ) → Bool → Draft → List (List ℕ) → Result Item RecordFault → Type 0
ItemRead names sized draft fields result =
    (rows : List (List (List ℕ))) (items : List Item) → Follows names sized rows items draft → IsReading (λ item. Spells names fields item × IsAllowed sized items item) IsWithinLimits result

-- what the first of the records gives, behind which others are left
abbrev pub HeaderRead : List (List (List ℕ)) → List (List (List ℕ)) → Result Header SheetFault → Type 0
HeaderRead rows left (Ok head) = (first : List (List ℕ)) × (rows ≡ first ∷ left) × IsHeader first head
HeaderRead rows left (Err fault.BadHeader) = HasBadHeader IsHeader rows
HeaderRead rows left (Err fault.Memory) = ⊤
HeaderRead rows left (Err other) = ⊥

-- what the next record gives
abbrev pub RowRead : List (List ℕ) → Bool → List Item → List (List ℕ) → Result Draft SheetFault → Type 0
RowRead names sized items fields (Ok after) = (item : Item) × IsGood (sheet_rules names sized) items fields item × (seen after ≡ told_of (items ++ item ∷ []))
RowRead names sized items fields (Err (fault.BadRecord number)) = (number ≡ length items + 2) × IsBad (sheet_rules names sized) items fields
RowRead names sized items fields (Err (fault.NumberTooLarge number)) = (number ≡ length items + 2) × IsTooLarge (sheet_rules names sized) items fields
RowRead names sized items fields (Err (fault.AfterEnd number)) = (number ≡ length items + 2) × IsAfterEnd (sheet_rules names sized) items fields
RowRead names sized items fields (Err fault.Memory) = ⊤
RowRead names sized items fields (Err other) = ⊥

-- the first of the records behind the header that has a fault
pub record StopsBehind (names : List (List ℕ)) (sized : Bool) (rows : List (List (List ℕ))) (number : ℕ) (IsFault : Rules Item → List Item → List (List ℕ) → Type 0) : Type 0 where
  pub before : List (List (List ℕ))
  pub fields : List (List ℕ)
  pub after : List (List (List ℕ))
  pub parted : rows ≡ before ++ fields ∷ after
  pub items : List Item
  pub good : AreGood (sheet_rules names sized) [] before items
  pub counted : number ≡ length items + 2
  pub fault : IsFault (sheet_rules names sized) items fields

-- what all records behind the header give
abbrev pub RestRead : List (List ℕ) → Bool → List (List (List ℕ)) → Result Draft SheetFault → Type 0
RestRead names sized rows (Ok draft) = (items : List Item) × Follows names sized rows items draft
RestRead names sized rows (Err (fault.BadRecord number)) = StopsBehind names sized rows number IsBad
RestRead names sized rows (Err (fault.NumberTooLarge number)) = StopsBehind names sized rows number IsTooLarge
RestRead names sized rows (Err (fault.AfterEnd number)) = StopsBehind names sized rows number IsAfterEnd
RestRead names sized rows (Err fault.Memory) = ⊤
RestRead names sized rows (Err other) = ⊥
