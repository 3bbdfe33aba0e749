-- What running the lines of a script leaves of the session's study, of the text and of the tally.
use Rattle.std.specs.Prelude.{◌≡◌, ◌+◌, ◌++◌, ◌⊎◌, ◌∷◌, ℕ, List, Option, Some, None, Ok, slice_index_or}
use Rattle.ofit_num.specs.Tally.{Counts}
use Rattle.ofit_study.specs.Counted.{HasComponentCount}
use Rattle.ofit_study.specs.declared.edit.Edit.{Edit}
use Rattle.ofit_study.specs.Edited.{Edited}
use Rattle.ofit_study.specs.Study.{Study, problem_stated}
use Rattle.ofit_session.specs.declared.anew.Touch.{Touch}
use Rattle.ofit_session.specs.Refit.{IsRefit}
use Rattle.ofit_session.specs.CountsAtMost.{CountsAtMost}
use Rattle.ofit_script.specs.declared.line.Line.{Line}
use Rattle.ofit_script.specs.declared.line.Line.TheVariants.{Change, Report, Sheet}
use Rattle.ofit_script.specs.ScriptGives.{LineGives, ScriptGives}

-- the line at an index that is below the number of lines
abbrev pub line_at : List Line → ℕ → Line
line_at lines index = slice_index_or lines index Report

-- the text of the line of the record with this number stands behind what was there, and its fits are counted
pub record IsRun (r : ℕ) (s : Study) (line : Line) (after : Study) (before behind : List ℕ) (counts counted : Counts) : Type 0 where
  pub text : List ℕ
  pub fits : ℕ
  pub gives : LineGives r s line after text fits
  pub appended : behind ≡ before ++ text
  pub counts_are : counted.fits ≡ counts.fits + fits

-- the line is an edit that the study takes
pub record IsTaken (s : Study) (line : Line) (after : Study) : Type 0 where
  pub edit : Edit
  pub is : line ≡ Change edit
  pub edited : Edited s edit (Ok after)

-- what an edit that the study takes fitted anew; nothing is told of any other line, and nothing counted
abbrev pub Touches : Study → Line → Study → Counts → Counts → Option Touch → Type 0
Touches s line after counts counted None = ((taken : Study) → IsTaken s line taken → ⊥) × (counted ≡ counts)
Touches s line after counts counted (Some touch) =
    (taken : IsTaken s line after) × IsRefit s taken.edit after touch.refitted × HasComponentCount (problem_stated after) touch.components
    × (counted.fits ≡ counts.fits + touch.refitted)

-- nothing was counted, or at most the fits of an edit that the study takes
abbrev pub CountsLine : Study → Line → Counts → Counts → Type 0
CountsLine s (Change edit) counts counted = CountsAtMost s edit counts counted
CountsLine s Report counts counted = counted ≡ counts
CountsLine s Sheet counts counted = counted ≡ counts

-- the study stands behind the line, and its fits are counted
pub record IsBehind (r : ℕ) (s : Study) (line : Line) (after : Study) (counts counted : Counts) : Type 0 where
  pub text : List ℕ
  pub fits : ℕ
  pub gives : LineGives r s line after text fits
  pub counts_are : counted.fits ≡ counts.fits + fits

-- the first of the lines that are left was begun
pub record BeginsNext (s : Study) (left : List Line) (counts counted : Counts) : Type 0 where
  pub line : Line
  pub rest : List Line
  pub is : left ≡ line ∷ rest
  pub most : CountsLine s line counts counted

-- a first part of the script ran, behind which this study stands; at most the fits of the next line were counted besides
pub record RanInPart (s : Study) (lines : List Line) (now : Study) (counts counted : Counts) : Type 0 where
  pub ran : List Line
  pub left : List Line
  pub parted : lines ≡ ran ++ left
  pub text : List ℕ
  pub fits : ℕ
  pub gives : ScriptGives 1 s ran now text fits
  pub middle : Counts
  pub counts_are : middle.fits ≡ counts.fits + fits
  pub next : (counted ≡ middle) ⊎ BeginsNext now left middle counted
