-- What the named files give: a table's study, the study with its order, a sheet, the lines of a script; or the first refusal.
use Rattle.std.specs.Prelude.{◌⊎◌, ℕ, List, Option, Result, Ok, Err}
use Rattle.ofit_outside.specs.Folder.{Held}
use Rattle.ofit_num.specs.Sheet as num
use Rattle.ofit_records.specs.Records.{records_of}
use Rattle.ofit_study.specs.declared.settings.Settings.{Settings}
use Rattle.ofit_study.specs.Study.{Study, IsValid, names_of}
use Rattle.ofit_words.specs.declared.job.Inputs.{Inputs}
use Rattle.ofit_words.specs.declared.job.OrderChoice.{OrderChoice}
use Rattle.ofit_words.specs.declared.job.OrderChoice.TheVariants.{Shaped, File}
use Rattle.ofit_table.specs.declared.fault.DataFault.TheVariants as data_fault
use Rattle.ofit_table.specs.declared.fault.OrderFault.TheVariants as order_fault
use Rattle.ofit_table.specs.DataRead.{DataRead}
use Rattle.ofit_table.specs.PairsRead.{PairsRead}
use Rattle.ofit_table.specs.PatternRead.{PatternRead}
use Rattle.ofit_sheet.specs.declared.fault.SheetFault.TheVariants as sheet_fault
use Rattle.ofit_sheet.specs.SheetRead.{SheetRead}
use Rattle.ofit_script.specs.declared.fault.ScriptFault.TheVariants as script_fault
use Rattle.ofit_script.specs.declared.line.Line.{Line}
use Rattle.ofit_script.specs.ScriptRead.{ScriptRead}
use Rattle.ofit_input.specs.declared.refusal.Which.TheVariants as which
use Rattle.ofit_input.specs.declared.refusal.Refusal.{Refusal}
use Rattle.ofit_input.specs.declared.refusal.Refusal.TheVariants as refusal
use Rattle.ofit_input.specs.Files.{ReadGives, FileGives}

-- the study of the table of this name, without pairs
abbrev pub TableGives : Option Held → List ℕ → Settings → Result Study Refusal → Type 0
TableGives held name settings = FileGives (λ bytes. DataRead bytes settings) refusal.Table data_fault.Memory held name which.Table

-- the study with the pairs of the order file of this name
abbrev pub PairsGive : Option Held → List ℕ → Study → Result Study Refusal → Type 0
PairsGive held name study = FileGives (λ bytes. PairsRead bytes study) refusal.Pairs order_fault.Memory held name which.Pairs

-- the study with the pairs of its order, which is a pattern or a file's
abbrev pub OrderGives : Option Held → OrderChoice → Study → Result Study Refusal → Type 0
OrderGives held (Shaped pattern) study = ReadGives (PatternRead pattern study) refusal.Pairs order_fault.Memory
OrderGives held (File name) study = PairsGive held name study

-- the study that the inputs name, which is a valid one: first its table is read, then its order
abbrev pub StudyGives : Option Held → Inputs → Result Study Refusal → Type 0
StudyGives held inputs (Ok study) = (before : Study) × TableGives held inputs.table inputs.settings (Ok before) × OrderGives held inputs.order before (Ok study) × IsValid study
StudyGives held inputs (Err refusal) = TableGives held inputs.table inputs.settings (Err refusal) ⊎ ((before : Study) × TableGives held inputs.table inputs.settings (Ok before) × OrderGives held inputs.order before (Err refusal))

-- the sheet of this name, for the study that names its groups
abbrev pub SheetGives : Option Held → List ℕ → Study → Result (num.Sheet Settings) Refusal → Type 0
SheetGives held name study = FileGives (λ bytes. SheetRead (names_of study) (records_of bytes)) refusal.Sheet sheet_fault.Memory held name which.Sheet

-- the lines of the script of this name
abbrev pub LinesGive : Option Held → List ℕ → Settings → Result (List Line) Refusal → Type 0
LinesGive held name settings = FileGives (λ bytes. ScriptRead bytes settings) refusal.Script script_fault.Memory held name which.Script
