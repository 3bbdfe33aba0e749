-- What the reading of a part of a record gives: what is spelled, where its numbers are within their limits, or what is wrong.
use Rattle.std.specs.Prelude.{Result, Ok, Err}
use Rattle.ofit_sheet.specs.declared.fault.RecordFault.{RecordFault}
use Rattle.ofit_sheet.specs.declared.fault.RecordFault.TheVariants.{Bad, TooLarge}

-- IsSpelled by the text, and IsWithin the limits
abbrev pub IsReading : {X : Type 0} → (X → Type 0) → (X → Type 0) → Result X RecordFault → Type 0
IsReading IsSpelled IsWithin (Ok x) = IsSpelled x × IsWithin x
IsReading {X} IsSpelled IsWithin (Err Bad) = (x : X) → IsSpelled x → ⊥
IsReading {X} IsSpelled IsWithin (Err TooLarge) = (x : X) × IsSpelled x × (IsWithin x → ⊥)

-- two readings together: bad where one is, too large where one is and none is bad
abbrev pub both_of : {X Y : Type 0} → Result X RecordFault → Result Y RecordFault → Result (X × Y) RecordFault
both_of (Ok x) (Ok y) = Ok (x, y)
both_of (Ok x) (Err fault) = Err fault
both_of (Err Bad) second = Err Bad
both_of (Err TooLarge) (Ok y) = Err TooLarge
both_of (Err TooLarge) (Err fault) = Err fault
