-- Edits within the limits, and how one that adds a row fails.
use Rattle.std.specs.Prelude.{◌≤◌, unsigned_abs, ⊤}
use Rattle.ofit_num.specs.declared.limits.TheConstants.{MOST_UNITS, MOST_WEIGHT}
use Rattle.ofit_study.specs.declared.edit.Edit.{Edit}
use Rattle.ofit_study.specs.declared.edit.Edit.TheVariants.{Add, Remove, Value, Weight, Relate, Unrelate}
use Rattle.ofit_study.specs.declared.fault.AddFault.{AddFault}
use Rattle.ofit_study.specs.declared.fault.AddFault.TheVariants as add
use Rattle.ofit_study.specs.declared.fault.EditFault.{EditFault}
use Rattle.ofit_study.specs.declared.fault.EditFault.TheVariants.{TooManyRows, TooHeavy, TooManyGroups, Memory}

-- why an edit that adds a row is refused
abbrev pub as_edit_fault : AddFault → EditFault
as_edit_fault add.TooManyRows = TooManyRows
as_edit_fault add.TooHeavy = TooHeavy
as_edit_fault add.TooManyGroups = TooManyGroups
as_edit_fault add.Memory = Memory

-- the value and the weight of an edit are within the limits
abbrev pub IsEditInLimits : Edit → Type 0
IsEditInLimits (Add group value weight) = (unsigned_abs value ≤ MOST_UNITS) × (1 ≤ weight) × (weight ≤ MOST_WEIGHT)
IsEditInLimits (Remove number) = ⊤
IsEditInLimits (Value number value) = unsigned_abs value ≤ MOST_UNITS
IsEditInLimits (Weight number weight) = (1 ≤ weight) × (weight ≤ MOST_WEIGHT)
IsEditInLimits (Relate low high) = ⊤
IsEditInLimits (Unrelate low high) = ⊤
