-- What a job gives whose files are read: its answer and its text, and its count of fits.
use Rattle.std.specs.Prelude.{◌≡◌, ◌+◌, ℕ, List}
use Rattle.ofit_study.specs.Counted.{HasComponentCount}
use Rattle.ofit_study.specs.Study.{Study, problem_stated}
use Rattle.ofit_script.specs.ScriptGives.{ScriptFits}
use Rattle.ofit_sample.specs.Made.{IsMade}
use Rattle.ofit_input.specs.declared.ready.Ready.{Ready}
use Rattle.ofit_input.specs.declared.ready.Ready.TheVariants.{Fit, Report, Verify, Session, Unimodal, VerifyUnimodal, Levels, Sample}
use Rattle.ofit_answer.specs.declared.answer.Answer.{Answer}
use Rattle.ofit_top.specs.Fit.{FitGives}
use Rattle.ofit_top.specs.Report.{ReportGives}
use Rattle.ofit_top.specs.Verify.{VerifyGives}
use Rattle.ofit_top.specs.Session.{SessionGives}
use Rattle.ofit_top.specs.Unimodal.{UnimodalGives}
use Rattle.ofit_top.specs.VerifyUnimodal.{VerifyUnimodalGives}
use Rattle.ofit_top.specs.Levels.{LevelsGive}
use Rattle.ofit_top.specs.Sample.{SampleGives}

abbrev pub JobGives : Ready → Answer → List ℕ → Type 0
JobGives (Fit study) = FitGives study
JobGives (Report study) = ReportGives study
JobGives (Verify study sheet) = VerifyGives study sheet
JobGives (Session study lines) = SessionGives study lines
JobGives (Unimodal study) = UnimodalGives study
JobGives (VerifyUnimodal study peaked) = VerifyUnimodalGives study peaked
JobGives (Levels k) = LevelsGive k
JobGives (Sample made) = SampleGives made

-- One fit for each component of the study, and in a session one for each component that an edit has fitted anew. What knows no order counts nothing, nor does the checker.
abbrev pub HasFits : Ready → ℕ → Type 0
HasFits (Fit study) fits = HasComponentCount (problem_stated study) fits
HasFits (Report study) fits = HasComponentCount (problem_stated study) fits
HasFits (Verify study sheet) fits = fits ≡ 0
HasFits (Session study lines) fits = (start : ℕ) × (later : ℕ) × HasComponentCount (problem_stated study) start × ScriptFits study lines later × (fits ≡ start + later)
HasFits (Unimodal study) fits = fits ≡ 0
HasFits (VerifyUnimodal study peaked) fits = fits ≡ 0
HasFits (Levels k) fits = fits ≡ 0
HasFits (Sample made) fits = (study : Study) × IsMade made study × HasComponentCount (problem_stated study) fits
