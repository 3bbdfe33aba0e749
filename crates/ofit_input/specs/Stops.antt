-- Why reading the files of a job stops.
use Rattle.std.specs.Prelude.{◌≡◌, ℕ}
use Rattle.ofit_outside.specs.Faults.{Rose}
use Rattle.ofit_table.specs.declared.fault.DataFault.{DataFault}
use Rattle.ofit_table.specs.declared.fault.DataFault.TheVariants as data_fault
use Rattle.ofit_table.specs.declared.fault.OrderFault.{OrderFault}
use Rattle.ofit_table.specs.declared.fault.OrderFault.TheVariants as order_fault
use Rattle.ofit_sheet.specs.declared.fault.SheetFault.{SheetFault}
use Rattle.ofit_sheet.specs.declared.fault.SheetFault.TheVariants as sheet_fault
use Rattle.ofit_script.specs.declared.fault.ScriptFault.{ScriptFault}
use Rattle.ofit_script.specs.declared.fault.ScriptFault.TheVariants as script_fault
use Rattle.ofit_input.specs.declared.refusal.Refusal.{Refusal}
use Rattle.ofit_input.specs.declared.refusal.Refusal.TheVariants as refusal
use Rattle.ofit_input.specs.declared.stop.Stop.{Stop}
use Rattle.ofit_input.specs.declared.stop.Stop.TheVariants.{Refused, ReadFault, Memory}

-- A refusal has a cause in the files; a read fault raised the folder's count of faults, which every other stop leaves.
abbrev pub Stops : ℕ → ℕ → (Refusal → Type 0) → Stop → Type 0
Stops before after IsCause (Refused refusal) = IsCause refusal × (after ≡ before)
Stops before after IsCause ReadFault = Rose before after
Stops before after IsCause Memory = after ≡ before

-- how the faults of a table, an order, a sheet and a script stop: want of memory is no refusal
abbrev pub table_stop : DataFault → Stop
table_stop data_fault.Memory = Memory
table_stop fault = Refused (refusal.Table fault)

abbrev pub order_stop : OrderFault → Stop
order_stop order_fault.Memory = Memory
order_stop fault = Refused (refusal.Pairs fault)

abbrev pub sheet_stop : SheetFault → Stop
sheet_stop sheet_fault.Memory = Memory
sheet_stop fault = Refused (refusal.Sheet fault)

abbrev pub script_stop : ScriptFault → Stop
script_stop script_fault.Memory = Memory
script_stop fault = Refused (refusal.Script fault)
