-- What the parts of a reading of a script say.
use Rattle.std.specs.Prelude.{◌≡◌, ◌<◌, ◌⊎◌, ◌++◌, ℕ, true, List, Result, Ok, Err, drop, length}
use Rattle.std.specs.List.{AllZip}
use Rattle.ofit_script.specs.declared.fault.ScriptFault.{ScriptFault}
use Rattle.ofit_script.specs.declared.fault.ScriptFault.TheVariants.{Memory}
use Rattle.ofit_script.specs.declared.kind.Kind.{Kind}
use Rattle.ofit_script.specs.declared.line.Line.{Line}
use Rattle.ofit_script.specs.Kinds.{kind_fields, prints}
use Rattle.ofit_script.specs.Lines.{is_print, most_lines, most_prints, print_count}
use Rattle.ofit_script.specs.Script.{IsLineInLimits, IsScript}
use Rattle.ofit_script.specs.Spelling.{FieldsFault, Spells}

-- there is room for a line of this kind behind these
pub record HasRoom (lines : List Line) (kind : Kind) : Type 0 where
  pub few : length lines < most_lines
  pub few_prints : prints kind ≡ true → print_count lines < most_prints

-- the record spells a line of its kind, which is within the limits
pub record SpellsOfKind (places : ℕ) (kind : Kind) (fields : List (List ℕ)) (line : Line) : Type 0 where
  pub spells : Spells places fields line
  pub limits : IsLineInLimits line
  pub same : is_print line ≡ prints kind

-- what a record of this kind is read as that has as many fields as a line of it
abbrev pub FieldsRead : ℕ → Kind → List (List ℕ) → ℕ → Result Line ScriptFault → Type 0
FieldsRead places kind fields number (Ok line) = SpellsOfKind places kind fields line
FieldsRead places kind fields number (Err fault) = (fault ≡ Memory) ⊎ FieldsFault places (kind_fields kind) (drop 1 fields) number fault

-- so far these lines were read, of the records before those that are left
pub record IsReadSoFar (places : ℕ) (records left : List (List (List ℕ))) (lines : List Line) : Type 0 where
  pub done : List (List (List ℕ))
  pub parted : records ≡ done ++ left
  pub each : AllZip (Spells places) done lines
  pub kept : IsScript lines
