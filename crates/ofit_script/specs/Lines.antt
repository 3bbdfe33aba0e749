-- The lines of a script that print a report or a sheet.
use Rattle.std.specs.Prelude.{ℕ, Bool, true, false, List, count_by}
use Rattle.ofit_script.specs.declared.line.Line.{Line}
use Rattle.ofit_script.specs.declared.line.Line.TheVariants.{Change, Report, Sheet}
pub use Rattle.ofit_script.specs.declared.limits.TheConstants.{MOST_LINES as most_lines, MOST_PRINTS as most_prints}

abbrev pub is_print : Line → Bool
is_print (Change edit) = false
is_print Report = true
is_print Sheet = true

abbrev pub print_count : List Line → ℕ
print_count lines = count_by is_print lines
