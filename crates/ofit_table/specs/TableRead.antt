-- What a table's records are read as, of which the first is the header: a study, or the first fault.
use Rattle.std.specs.Prelude.{◌≡◌, ◌+◌, ◌⊎◌, ◌++◌, ◌∷◌, [], ℕ, List, Result, Ok, Err, length}
use Rattle.ofit_study.specs.Study.{Study}

-- How tables of one sort are read: the columns of a header, or its first fault; the parts that records behind it give, or the first fault of a record with this number behind such parts; the study that all parts make; the faults of a table without a record and of want of memory.
pub record Table (Columns Part Fault : Type 0) : Type 1 where
  pub AreColumns : List (List ℕ) → Columns → Type 0
  pub HeaderFault : List (List ℕ) → Fault → Type 0
  pub AreParts : Columns → List (List (List ℕ)) → List Part → Type 0
  pub RecordFault : Columns → List Part → List (List ℕ) → ℕ → Fault → Type 0
  pub IsMade : List Part → Study → Type 0
  pub no_header : Fault
  pub memory : Fault

-- the first of the records behind the header that has a fault, and this one; the header has the number 1
pub record HasFault {C P F : Type 0} (t : Table C P F) (columns : C) (records : List (List (List ℕ))) (fault : F) : Type 0 where
  pub before : List (List (List ℕ))
  pub fields : List (List ℕ)
  pub after : List (List (List ℕ))
  pub parts : List P
  pub spells : records ≡ before ++ fields ∷ after
  pub fine : t.AreParts columns before parts
  pub found : t.RecordFault columns parts fields (length before + 2) fault

-- a header with the columns, and records behind it whose parts make the study
abbrev pub StudyRead : {C P F : Type 0} → Table C P F → List (List (List ℕ)) → Study → Type 0
StudyRead t [] study = ⊥
StudyRead {C} {P} t (header ∷ later) study = (columns : C) × (parts : List P) × t.AreColumns header columns × t.AreParts columns later parts × t.IsMade parts study

-- there is no record; or the header has this fault; or it has the columns, and a record behind it has this fault
abbrev pub FaultRead : {C P F : Type 0} → Table C P F → List (List (List ℕ)) → F → Type 0
FaultRead t [] fault = fault ≡ t.no_header
FaultRead {C} t (header ∷ later) fault = t.HeaderFault header fault ⊎ ((columns : C) × t.AreColumns header columns × HasFault t columns later fault)

-- what a reading answers; want of memory tells nothing
abbrev pub TableRead : {C P F : Type 0} → Table C P F → List (List (List ℕ)) → Result Study F → Type 0
TableRead t records (Ok study) = StudyRead t records study
TableRead t records (Err fault) = (fault ≡ t.memory) ⊎ FaultRead t records fault
