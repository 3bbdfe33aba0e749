-- What the bytes of a script are read as: its lines, or the first fault.
use Rattle.std.specs.Prelude.{◌≡◌, ◌≤◌, ◌+◌, ◌++◌, ◌∷◌, ℕ, List, Result, Ok, Err, length}
use Rattle.std.specs.List.{AllZip}
use Rattle.ofit_records.specs.Records.{records_of}
use Rattle.ofit_study.specs.declared.settings.Settings.{Settings}
use Rattle.ofit_script.specs.declared.fault.ScriptFault.{ScriptFault}
use Rattle.ofit_script.specs.declared.line.Line.{Line}
use Rattle.ofit_script.specs.Lines.{most_lines, most_prints, print_count}
use Rattle.ofit_script.specs.Spelling.{RecordFault, Spells}

-- the lines of records without a fault: one a record, within the limits
pub record AreLines (places : ℕ) (records : List (List (List ℕ))) (lines : List Line) : Type 0 where
  pub each : AllZip (Spells places) records lines
  pub few : length lines ≤ most_lines
  pub few_prints : print_count lines ≤ most_prints

-- the first of the records that has a fault, and this one; records count from 1
pub record HasFault (places : ℕ) (records : List (List (List ℕ))) (fault : ScriptFault) : Type 0 where
  pub before : List (List (List ℕ))
  pub fields : List (List ℕ)
  pub after : List (List (List ℕ))
  pub lines : List Line
  pub parted : records ≡ before ++ fields ∷ after
  pub fine : AreLines places before lines
  pub found : RecordFault places lines fields (length before + 1) fault

-- want of memory is no such fault
abbrev pub ScriptRead : List ℕ → Settings → Result (List Line) ScriptFault → Type 0
ScriptRead bytes settings (Ok lines) = AreLines settings.places (records_of bytes) lines
ScriptRead bytes settings (Err fault) = HasFault settings.places (records_of bytes) fault
