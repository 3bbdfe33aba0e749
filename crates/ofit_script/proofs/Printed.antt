-- What the lines of a script print, and what they leave.
use Rattle.std.proofs.Common.{◌≡◌, ◌∙◌, ◌++◌, ℕ, List, [], Ok, Some, length, sym, ap, ap₂, subst, append-nil, append_assoc}
use Rattle.std.proofs.lemmas.Option.{get_or_from_slice_get}
use Rattle.std.specs.Prelude.{Bool, true, false, IsSome, codes, decimal, slice_get}
use Rattle.ofit_num.specs.Fit.{LeastBestValues}
use Rattle.ofit_num.specs.Fraction.{Fraction}
use Rattle.ofit_num.specs.Sheet as num
use Rattle.ofit_num.specs.Verdict.{Passes}
use Rattle.ofit_records.specs.Records.{records_of}
use Rattle.ofit_study.specs.declared.settings.Settings.{Settings}
use Rattle.ofit_study.specs.Study.{Study, meaning_of, names_of, problem_stated}
use Rattle.ofit_sheet.specs.Kept.{IsKept}
use Rattle.ofit_sheet.specs.SheetRead.{SheetRead}
use Rattle.ofit_sheet.specs.SheetText as sheet
use Rattle.ofit_cert.specs.FitSheet.{IsFitOf}
use Rattle.ofit_script.specs.declared.line.Line.{Line}
use Rattle.ofit_script.specs.declared.line.Line.TheVariants.{Change, Report}
use Rattle.ofit_script.specs.Lines.{is_print}
use Rattle.ofit_study.specs.declared.edit.Edit.{Edit}
use Rattle.ofit_script.specs.LineText.{report_text, sheet_text}
use Rattle.ofit_script.specs.Runs.{IsTaken, line_at}

-- four texts, one behind the other
assoc : (a b c d : List ℕ) → a ++ (b ++ (c ++ d)) ≡ a ++ b ++ c ++ d
assoc a b c d = simp append_assoc

-- the pieces of a line with a report, and of one with a sheet
pub reported : (r : ℕ) (digits body text : List ℕ) → digits ≡ decimal r → body ≡ text → codes "line " ++ (digits ++ (codes ": report\n" ++ (body ++ []))) ≡ report_text r text
reported r digits body text e f = ap₂ (λ (x y : List ℕ). codes "line " ++ (x ++ (codes ": report\n" ++ y))) e (append-nil body ∙ f) ∙ assoc (codes "line ") (decimal r) (codes ": report\n") text

pub sheeted : (r : ℕ) (digits body text : List ℕ) → digits ≡ decimal r → body ≡ text → codes "line " ++ (digits ++ (codes ": sheet\n" ++ (body ++ []))) ≡ sheet_text r text
sheeted r digits body text e f = ap₂ (λ (x y : List ℕ). codes "line " ++ (x ++ (codes ": sheet\n" ++ y))) e (append-nil body ∙ f) ∙ assoc (codes "line ") (decimal r) (codes ": sheet\n") text

-- a sheet that is read back and passes is one of the fit
pub is_fit : (s : Study) (text : List ℕ) (x : num.Sheet Settings) (values : List Fraction) → IsSome x.size → num.FitsCount (length (names_of s)) x → IsKept x → text ≡ sheet.sheet_text (names_of s) x
    → SheetRead (names_of s) (records_of (sheet.sheet_text (names_of s) x)) (Ok x) → Passes (meaning_of s.settings.loss) (problem_stated s) s.settings x → num.sheet_values x ≡ values
    → LeastBestValues (meaning_of s.settings.loss) (problem_stated s) values → IsFitOf s text
is_fit s text x values sized fits kept printed back passes same least_best = record {
  sheet = x;
  sized = sized;
  fits = fits;
  kept = kept;
  printed = printed;
  read_back = subst (λ (t : List ℕ). SheetRead (names_of s) (records_of t) (Ok x)) (sym printed) back;
  passes = passes;
  least_best = subst (LeastBestValues (meaning_of s.settings.loss) (problem_stated s)) (sym same) least_best;
}

-- the line that the code looks at is the line at the index
pub line_is : (lines : List Line) (index : ℕ) (line other : Line) → slice_get lines index ≡ Some line → line ≡ other → line_at lines index ≡ other
line_is lines index line other e f = get_or_from_slice_get lines index line Report e ∙ f

-- a line that prints is no edit that the study takes
pub no_edit : (s taken : Study) (line other : Line) → line ≡ other → is_print other ≡ true → IsTaken s line taken → ⊥
no_edit s taken line other e p t = apart t.edit (sym e ∙ t.is)
  where
    apart : (edit : Edit) → other ≡ Change edit → ⊥
    apart edit q = absurd (clash (sym p ∙ ap is_print q))
      where
        clash : ◌≡◌ {A = Bool} true false → ⊥
        clash h = absurd cc
