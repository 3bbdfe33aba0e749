-- The texts that the lines of a script print.
use Rattle.std.specs.Prelude.{ℕ, List, ◌++◌, codes, decimal}
use Rattle.ofit_study.specs.declared.edit.End.TheVariants.{Low, High}
use Rattle.ofit_study.specs.declared.fault.EditFault.{EditFault}
use Rattle.ofit_study.specs.declared.fault.EditFault.TheVariants.{TooManyRows, TooHeavy, TooManyGroups, NoRow, GroupInUse, NoGroup, PairPresent, PairAbsent, TooManyPairs, Memory}

-- why an edit is refused; want of memory refuses none
abbrev pub refusal_text : EditFault → List ℕ
refusal_text NoRow = codes "no row"
refusal_text GroupInUse = codes "group in use"
refusal_text (NoGroup Low) = codes "no group low"
refusal_text (NoGroup High) = codes "no group high"
refusal_text PairPresent = codes "pair present"
refusal_text PairAbsent = codes "pair absent"
refusal_text TooManyRows = codes "too many rows"
refusal_text TooHeavy = codes "total weight too large"
refusal_text TooManyGroups = codes "too many groups"
refusal_text TooManyPairs = codes "too many pairs"
refusal_text Memory = codes "out of memory"

-- `line <r>: refitted <refitted> of <components>`, for an edit that the study takes
abbrev pub refitted_text : ℕ → ℕ → ℕ → List ℕ
refitted_text r refitted components = codes "line " ++ decimal r ++ codes ": refitted " ++ decimal refitted ++ codes " of " ++ decimal components ++ codes "\n"

-- `line <r>: refused <text>`, for an edit that the study refuses
abbrev pub refused_text : ℕ → EditFault → List ℕ
refused_text r fault = codes "line " ++ decimal r ++ codes ": refused " ++ refusal_text fault ++ codes "\n"

-- `line <r>: report`, and the report behind it
abbrev pub report_text : ℕ → List ℕ → List ℕ
report_text r report = codes "line " ++ decimal r ++ codes ": report\n" ++ report

-- `line <r>: sheet`, and the sheet behind it
abbrev pub sheet_text : ℕ → List ℕ → List ℕ
sheet_text r sheet = codes "line " ++ decimal r ++ codes ": sheet\n" ++ sheet
