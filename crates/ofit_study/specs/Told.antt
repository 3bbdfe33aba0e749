-- What the parts of a change say, and what an exchange leaves.
use Rattle.std.specs.Prelude.{◌<◌, List, ⊤, length, slice_set, slice_index_or}
use Rattle.ofit_study.specs.declared.entry.Entry.{Entry}
use Rattle.ofit_study.specs.declared.study.change.OtherEntries.{OtherEntries}
use Rattle.ofit_study.specs.declared.study.change.OtherEntries.TheVariants.{One, All}
use Rattle.ofit_study.specs.Change.{Entries, At, Whole}

-- the entries that a change holds
abbrev pub told : OtherEntries → Entries
told (One index entry) = At index entry
told (All entries) = Whole entries.items

-- a row at an index has one to replace
abbrev pub AreInside : List Entry → Entries → Type 0
AreInside entries (At index entry) = index < length entries
AreInside entries (Whole others) = ⊤

-- entries with those of a change in their place
abbrev pub entries_with : List Entry → Entries → List Entry
entries_with entries (At index entry) = slice_set entries index entry
entries_with entries (Whole others) = others

-- what the change holds after it was exchanged with these entries
abbrev pub entries_left : List Entry → Entries → Entries
entries_left entries (At index entry) = At index (slice_index_or entries index entry)
entries_left entries (Whole others) = Whole entries
