-- The line of an answer for the error output.
use Rattle.std.specs.Prelude.{ℕ, List, ◌++◌, Option, Some, None, codes, decimal}
use Rattle.ofit_words.specs.declared.fault.WordFault.{WordFault}
use Rattle.ofit_words.specs.declared.fault.WordFault.TheVariants as word
use Rattle.ofit_table.specs.Columns.{column_name}
use Rattle.ofit_table.specs.declared.column.Column.{Column}
use Rattle.ofit_table.specs.declared.fault.DataFault.{DataFault}
use Rattle.ofit_table.specs.declared.fault.DataFault.TheVariants as table
use Rattle.ofit_table.specs.declared.fault.OrderFault.{OrderFault}
use Rattle.ofit_table.specs.declared.fault.OrderFault.TheVariants as order
use Rattle.ofit_sheet.specs.declared.fault.SheetFault.{SheetFault}
use Rattle.ofit_sheet.specs.declared.fault.SheetFault.TheVariants as sheet
use Rattle.ofit_script.specs.declared.fault.ScriptFault.{ScriptFault}
use Rattle.ofit_script.specs.declared.fault.ScriptFault.TheVariants as script
use Rattle.ofit_input.specs.declared.refusal.Which.{Which}
use Rattle.ofit_input.specs.declared.refusal.Which.TheVariants as which
use Rattle.ofit_input.specs.declared.refusal.Refusal.{Refusal}
use Rattle.ofit_input.specs.declared.refusal.Refusal.TheVariants as refusal
use Rattle.ofit_answer.specs.declared.answer.Answer.{Answer}
use Rattle.ofit_answer.specs.declared.answer.Answer.TheVariants as answer

-- a text as a line of the program's
abbrev pub line_of : List ℕ → List ℕ
line_of text = codes "ofit: " ++ text ++ codes "\n"

abbrev pub file_text : Which → List ℕ
file_text which.Table = codes "data"
file_text which.Pairs = codes "order"
file_text which.Sheet = codes "sheet"
file_text which.Script = codes "script"

abbrev pub memory_text : List ℕ
memory_text = codes "out of memory"

-- `<words> at word <place>`
abbrev pub at_word : List ℕ → ℕ → List ℕ
at_word words place = words ++ codes " at word " ++ decimal place

-- `<file>: <words>`
abbrev pub of_file : Which → List ℕ → List ℕ
of_file file words = file_text file ++ codes ": " ++ words

-- `<file>: <words> <column>`
abbrev pub of_column : Which → List ℕ → Column → List ℕ
of_column file words column = file_text file ++ codes ": " ++ words ++ codes " " ++ column_name column

-- `<file> record <number>: <words>`
abbrev pub at_record : Which → ℕ → List ℕ → List ℕ
at_record file number words = file_text file ++ codes " record " ++ decimal number ++ codes ": " ++ words

abbrev pub words_text : WordFault → List ℕ
words_text word.NoCommand = codes "no command"
words_text word.UnknownCommand = codes "unknown command"
words_text word.MissingName = codes "names missing"
words_text word.LevelOutOfRange = codes "level out of range"
words_text (word.UnknownSetting place) = at_word (codes "unknown setting") place
words_text (word.RepeatedSetting place) = at_word (codes "repeated setting") place
words_text (word.BadSetting place) = at_word (codes "bad setting") place
words_text word.BoundsCross = codes "bounds cross"
words_text word.Memory = memory_text

abbrev pub data_text : DataFault → List ℕ
data_text table.NoHeader = of_file which.Table (codes "no header")
data_text (table.NoColumn column) = of_column which.Table (codes "no column") column
data_text (table.ColumnTwice column) = of_column which.Table (codes "column twice") column
data_text (table.FieldMissing number) = at_record which.Table number (codes "field missing")
data_text (table.NotName number) = at_record which.Table number (codes "not a name")
data_text (table.NotNumber number) = at_record which.Table number (codes "not a number")
data_text (table.TooFine number) = at_record which.Table number (codes "too many decimals")
data_text (table.TooLarge number) = at_record which.Table number (codes "number too large")
data_text (table.BadWeight number) = at_record which.Table number (codes "bad weight")
data_text (table.TooManyRows number) = at_record which.Table number (codes "too many rows")
data_text (table.TooHeavy number) = at_record which.Table number (codes "total weight too large")
data_text (table.TooManyGroups number) = at_record which.Table number (codes "too many groups")
data_text table.Memory = memory_text

abbrev pub order_text : OrderFault → List ℕ
order_text order.NoHeader = of_file which.Pairs (codes "no header")
order_text (order.NoColumn column) = of_column which.Pairs (codes "no column") column
order_text (order.ColumnTwice column) = of_column which.Pairs (codes "column twice") column
order_text (order.FieldMissing number) = at_record which.Pairs number (codes "field missing")
order_text (order.UnknownGroup number) = at_record which.Pairs number (codes "unknown group")
order_text (order.TooManyPairs number) = at_record which.Pairs number (codes "too many pairs")
order_text order.NoGroup = of_file which.Pairs (codes "no such group")
order_text order.Memory = memory_text

abbrev pub sheet_text : SheetFault → List ℕ
sheet_text sheet.BadHeader = of_file which.Sheet (codes "bad header")
sheet_text (sheet.BadRecord number) = at_record which.Sheet number (codes "bad record")
sheet_text (sheet.NumberTooLarge number) = at_record which.Sheet number (codes "number too large")
sheet_text sheet.NoEnd = of_file which.Sheet (codes "no end")
sheet_text (sheet.AfterEnd number) = at_record which.Sheet number (codes "record after the end")
sheet_text sheet.Memory = memory_text

abbrev pub script_text : ScriptFault → List ℕ
script_text (script.TooManyLines number) = at_record which.Script number (codes "too many lines")
script_text (script.TooManyPrints number) = at_record which.Script number (codes "too many reports")
script_text (script.UnknownLine number) = at_record which.Script number (codes "unknown line")
script_text (script.FieldCount number) = at_record which.Script number (codes "wrong number of fields")
script_text (script.NotName number) = at_record which.Script number (codes "not a name")
script_text (script.BadRow number) = at_record which.Script number (codes "bad row number")
script_text (script.NotNumber number) = at_record which.Script number (codes "not a number")
script_text (script.TooFine number) = at_record which.Script number (codes "too many decimals")
script_text (script.TooLarge number) = at_record which.Script number (codes "number too large")
script_text (script.BadWeight number) = at_record which.Script number (codes "bad weight")
script_text script.Memory = memory_text

abbrev pub refusal_text : Refusal → List ℕ
refusal_text (refusal.FileMissing file) = of_file file (codes "no such file")
refusal_text (refusal.FileLong file) = of_file file (codes "file too long")
refusal_text (refusal.Table fault) = data_text fault
refusal_text (refusal.Pairs fault) = order_text fault
refusal_text (refusal.Sheet fault) = sheet_text fault
refusal_text refusal.TooManyForPeak = codes "too many groups for an unknown peak"
refusal_text (refusal.Script fault) = script_text fault

-- a run whose whole output was written has none
abbrev pub error_line : Answer → Option (List ℕ)
error_line answer.Done = None
error_line (answer.Fails verdict) = None
error_line (answer.FailsPeak verdict) = None
error_line (answer.Words fault) = Some (line_of (words_text fault))
error_line (answer.Refused refusal) = Some (line_of (refusal_text refusal))
error_line answer.ReadFault = Some (line_of (codes "read fault"))
error_line answer.WriteFault = Some (line_of (codes "write fault"))
error_line answer.Memory = Some (line_of memory_text)
