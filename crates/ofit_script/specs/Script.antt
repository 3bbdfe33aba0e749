-- What a script that was read keeps.
use Rattle.std.specs.Prelude.{◌≤◌, List, length, All, ⊤}
use Rattle.ofit_script.specs.declared.line.Line.{Line}
use Rattle.ofit_script.specs.declared.line.Line.TheVariants.{Change, Report, Sheet}
use Rattle.ofit_study.specs.EditLimits.{IsEditInLimits}
use Rattle.ofit_script.specs.declared.limits.TheConstants.{MOST_LINES as most_lines}
use Rattle.ofit_script.specs.declared.limits.TheConstants.{MOST_PRINTS as most_prints}
use Rattle.ofit_script.specs.Lines.{print_count}

-- the value and the weight of an edit are within the limits
abbrev pub IsLineInLimits : Line → Type 0
IsLineInLimits (Change edit) = IsEditInLimits edit
IsLineInLimits Report = ⊤
IsLineInLimits Sheet = ⊤

-- what each script keeps
pub record IsScript (lines : List Line) : Type 0 where
  pub few : length lines ≤ most_lines
  pub few_prints : print_count lines ≤ most_prints
  pub limits : All IsLineInLimits lines
