-- What the lines of a script give for a study: the study after them, their text, and how many components they fit.
use Rattle.std.specs.Prelude.{◌≡◌, ◌+◌, ◌++◌, ◌⊎◌, ℕ, List, [], ◌∷◌, Ok, Err}
use Rattle.ofit_study.specs.declared.edit.Edit.{Edit}
use Rattle.ofit_study.specs.declared.fault.EditFault.{EditFault}
use Rattle.ofit_study.specs.Counted.{HasComponentCount}
use Rattle.ofit_study.specs.Edited.{Edited}
use Rattle.ofit_study.specs.Study.{Study, problem_stated}
use Rattle.ofit_cert.specs.FitSheet.{IsFitOf}
use Rattle.ofit_report.specs.ReportOf.{IsReportOf}
use Rattle.ofit_session.specs.Refit.{IsRefit}
use Rattle.ofit_script.specs.declared.line.Line.{Line}
use Rattle.ofit_script.specs.declared.line.Line.TheVariants.{Change, Report, Sheet}
use Rattle.ofit_script.specs.LineText.{refitted_text, refused_text, report_text, sheet_text}

-- the study takes the edit: the components that hold a touched group are fitted, and the text tells how many of all components they are
pub record TakesEdit (r : ℕ) (s : Study) (edit : Edit) (after : Study) (text : List ℕ) (fits : ℕ) : Type 0 where
  pub edited : Edited s edit (Ok after)
  pub refitted : IsRefit s edit after fits
  pub components : ℕ
  pub are_all : HasComponentCount (problem_stated after) components
  pub printed : text ≡ refitted_text r fits components

-- the study refuses the edit, and stays
pub record RefusesEdit (r : ℕ) (s : Study) (edit : Edit) (after : Study) (text : List ℕ) (fits : ℕ) : Type 0 where
  pub fault : EditFault
  pub refused : Edited s edit (Err fault)
  pub stays : after ≡ s
  pub none : fits ≡ 0
  pub printed : text ≡ refused_text r fault

-- the report of the study with its least best values, in lowest terms; the study stays
pub record PrintsReport (r : ℕ) (s : Study) (after : Study) (text : List ℕ) (fits : ℕ) : Type 0 where
  pub report : List ℕ
  pub is_report : IsReportOf s report
  pub stays : after ≡ s
  pub none : fits ≡ 0
  pub printed : text ≡ report_text r report

-- a sheet of the study with its least best values, that passes the checker; the study stays
pub record PrintsSheet (r : ℕ) (s : Study) (after : Study) (text : List ℕ) (fits : ℕ) : Type 0 where
  pub sheet : List ℕ
  pub is_fit : IsFitOf s sheet
  pub stays : after ≡ s
  pub none : fits ≡ 0
  pub printed : text ≡ sheet_text r sheet

-- the line of the record with this number
abbrev pub LineGives : ℕ → Study → Line → Study → List ℕ → ℕ → Type 0
LineGives r s (Change edit) after text fits = TakesEdit r s edit after text fits ⊎ RefusesEdit r s edit after text fits
LineGives r s Report after text fits = PrintsReport r s after text fits
LineGives r s Sheet after text fits = PrintsSheet r s after text fits

-- the first of some lines, and those behind it for the study that it leaves
pub record InTurn (First Rest : Study → List ℕ → ℕ → Type 0) (text : List ℕ) (fits : ℕ) : Type 0 where
  pub between : Study
  pub head : List ℕ
  pub tail : List ℕ
  pub head_fits : ℕ
  pub tail_fits : ℕ
  pub first : First between head head_fits
  pub rest : Rest between tail tail_fits
  pub text_is : text ≡ head ++ tail
  pub fits_are : fits ≡ head_fits + tail_fits

-- nothing
pub record GivesNothing (s : Study) (after : Study) (text : List ℕ) (fits : ℕ) : Type 0 where
  pub stays : after ≡ s
  pub silent : text ≡ []
  pub none : fits ≡ 0

-- the lines, of which the first is the record with this number
abbrev pub ScriptGives : ℕ → Study → List Line → Study → List ℕ → ℕ → Type 0
ScriptGives r s [] after text fits = GivesNothing s after text fits
ScriptGives r s (line ∷ lines) after text fits = InTurn (λ between head n. LineGives r s line between head n) (λ between tail n. ScriptGives (r + 1) between lines after tail n) text fits

-- a text that the whole script may print
abbrev pub ScriptPrints : Study → List Line → List ℕ → Type 0
ScriptPrints s lines text = (after : Study) × (fits : ℕ) × ScriptGives 1 s lines after text fits

-- how many components the whole script fits
abbrev pub ScriptFits : Study → List Line → ℕ → Type 0
ScriptFits s lines fits = (after : Study) × (text : List ℕ) × ScriptGives 1 s lines after text fits
