-- A header and records behind it, read one after another: what they spell, or the first faulty record.
use Rattle.std.specs.Prelude.{◌≡◌, ◌+◌, ℕ, List, [], ◌∷◌, ◌++◌, length, Bool, true, false, Result, Ok, Err, ⊤}
use Rattle.ofit_sheet.specs.declared.fault.SheetFault.{SheetFault}
use Rattle.ofit_sheet.specs.declared.fault.SheetFault.TheVariants as fault

-- How the records behind a header spell: which item the fields of a record spell behind the items before it, where such an item may stand; which items are within their limits; whether the end is among items.
pub record Rules (Item : Type 0) : Type 1 where
  pub Spells : List Item → List (List ℕ) → Item → Type 0
  pub IsWithin : Item → Type 0
  pub has_end : List Item → Bool

-- which records are headers, and how those behind each spell
pub record Grammar (Header Item : Type 0) : Type 1 where
  pub IsHeader : List (List ℕ) → Header → Type 0
  pub rules : Header → Rules Item

-- a record without a fault, behind those before it
pub record IsGood {I : Type 0} (r : Rules I) (before : List I) (fields : List (List ℕ)) (item : I) : Type 0 where
  pub open_yet : r.has_end before ≡ false
  pub spells : r.Spells before fields item
  pub within : r.IsWithin item

-- records without a fault, behind those before them
abbrev pub AreGood : {I : Type 0} → Rules I → List I → List (List (List ℕ)) → List I → Type 0
AreGood r before [] [] = ⊤
AreGood r before [] (item ∷ items) = ⊥
AreGood r before (fields ∷ rows) [] = ⊥
AreGood r before (fields ∷ rows) (item ∷ items) = IsGood r before fields item × AreGood r (before ++ item ∷ []) rows items

-- the three faults of a record, of which the first that holds counts
abbrev pub IsAfterEnd : {I : Type 0} → Rules I → List I → List (List ℕ) → Type 0
IsAfterEnd r before fields = r.has_end before ≡ true

pub record IsBad {I : Type 0} (r : Rules I) (before : List I) (fields : List (List ℕ)) : Type 0 where
  pub open_yet : r.has_end before ≡ false
  pub breaks : (item : I) → r.Spells before fields item → ⊥

pub record IsTooLarge {I : Type 0} (r : Rules I) (before : List I) (fields : List (List ℕ)) : Type 0 where
  pub open_yet : r.has_end before ≡ false
  pub item : I
  pub spells : r.Spells before fields item
  pub beyond : r.IsWithin item → ⊥

-- a header, and records without a fault behind it
pub record ReadsTo {H I : Type 0} (g : Grammar H I) (rows : List (List (List ℕ))) (head : H) (items : List I) : Type 0 where
  pub first : List (List ℕ)
  pub others : List (List (List ℕ))
  pub parted : rows ≡ first ∷ others
  pub header : g.IsHeader first head
  pub good : AreGood (g.rules head) [] others items

-- record 1 isn't there or isn't a header
abbrev pub HasBadHeader : {H : Type 0} → (List (List ℕ) → H → Type 0) → List (List (List ℕ)) → Type 0
HasBadHeader {H} IsHeader rows = (first : List (List ℕ)) (others : List (List (List ℕ))) (head : H) → rows ≡ first ∷ others → IsHeader first head → ⊥

-- no record has a fault, and the end isn't among them
pub record HasNoEnd {H I : Type 0} (g : Grammar H I) (rows : List (List (List ℕ))) : Type 0 where
  pub head : H
  pub items : List I
  pub reads : ReadsTo g rows head items
  pub open_yet : (g.rules head).has_end items ≡ false

-- the first record with a fault has this number, and this fault
pub record StopsAt {H I : Type 0} (g : Grammar H I) (rows : List (List (List ℕ))) (number : ℕ) (IsFault : Rules I → List I → List (List ℕ) → Type 0) : Type 0 where
  pub before : List (List (List ℕ))
  pub fields : List (List ℕ)
  pub after : List (List (List ℕ))
  pub parted : rows ≡ before ++ fields ∷ after
  pub head : H
  pub items : List I
  pub reads : ReadsTo g before head items
  pub counted : number ≡ length before + 1
  pub fault : IsFault (g.rules head) items fields

-- no record has a fault, the end is among them, and this is what header and items make
pub record HasMade {H I X : Type 0} (g : Grammar H I) (IsMade : H → List I → X → Type 0) (rows : List (List (List ℕ))) (x : X) : Type 0 where
  pub head : H
  pub items : List I
  pub reads : ReadsTo g rows head items
  pub ended : (g.rules head).has_end items ≡ true
  pub made : IsMade head items x

-- what a reading answers; want of memory tells nothing
abbrev pub FrameRead : {H I X : Type 0} → Grammar H I → (H → List I → X → Type 0) → List (List (List ℕ)) → Result X SheetFault → Type 0
FrameRead g IsMade rows (Ok x) = HasMade g IsMade rows x
FrameRead g IsMade rows (Err fault.BadHeader) = HasBadHeader g.IsHeader rows
FrameRead g IsMade rows (Err (fault.BadRecord number)) = StopsAt g rows number IsBad
FrameRead g IsMade rows (Err (fault.NumberTooLarge number)) = StopsAt g rows number IsTooLarge
FrameRead g IsMade rows (Err fault.NoEnd) = HasNoEnd g rows
FrameRead g IsMade rows (Err (fault.AfterEnd number)) = StopsAt g rows number IsAfterEnd
FrameRead g IsMade rows (Err fault.Memory) = ⊤
