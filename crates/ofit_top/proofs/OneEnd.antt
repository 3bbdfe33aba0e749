-- A job gives one answer and one count of fits; its text is one too, but for the sheet of a fit.
use Rattle.std.proofs.Common.{◌≡◌, ℕ, ◌+◌, List, refl, sym, ap, ap₂, ◌∙◌, subst}
use Rattle.std.specs.Prelude.{⊤, All, Contains}
use Rattle.ofit_num.specs.Fit.{LeastBestValues}
use Rattle.ofit_num.specs.Fraction.{Fraction, IsLowest}
use Rattle.ofit_num.specs.Meaning.{Meaning}
use Rattle.ofit_num.specs.Problem.{Problem}
use Rattle.ofit_num.specs.Sheet as num
use Rattle.ofit_num.specs.Verdict as said_of
use Rattle.ofit_num.proofs.Verdicts.{one_verdict}
use Rattle.ofit_study.specs.declared.settings.Settings.{Settings}
use Rattle.ofit_study.specs.Counted.{HasComponentCount}
use Rattle.ofit_study.specs.Study.{Study, IsValid, problem_stated, meaning_of}
use Rattle.ofit_fit.proofs.Fitted.{one_count}
use Rattle.ofit_check.specs.declared.verdict.Verdict.{Verdict}
use Rattle.ofit_check.specs.declared.verdict.Verdict.TheVariants as verdicts
use Rattle.ofit_check.specs.Told.{told}
use Rattle.ofit_report.specs.ReportOf.{IsReportOf}
use Rattle.ofit_script.specs.declared.line.Line.{Line}
use Rattle.ofit_script.specs.declared.line.Line.TheVariants as line
use Rattle.ofit_script.specs.ScriptGives.{ScriptGives}
use Rattle.ofit_words.specs.declared.job.SampleJob.{SampleJob}
use Rattle.ofit_sample.specs.Made.{IsMade}
use Rattle.ofit_sample.specs.SampleText.{SampleText}
use Rattle.ofit_input.specs.declared.ready.Ready.{Ready}
use Rattle.ofit_input.specs.declared.ready.Ready.TheVariants.{Fit, Report, Verify, Session, Unimodal, VerifyUnimodal, Levels, Sample}
use Rattle.ofit_sheet.specs.Peaked.{Peaked}
use Rattle.ofit_sheet.specs.PeakVerdict as peak_of
use Rattle.ofit_check.specs.declared.peak.verdict.PeakVerdict.{PeakVerdict}
use Rattle.ofit_check.specs.declared.peak.verdict.PeakVerdict.TheVariants as peaks
use Rattle.ofit_check.specs.Peak.{peak_told}
use Rattle.ofit_answer.specs.VerdictText.{verdict_text}
use Rattle.ofit_answer.specs.PeakVerdictText.{peak_verdict_text}
use Rattle.ofit_answer.specs.declared.answer.Answer.{Answer}
use Rattle.ofit_top.specs.Flows.{HasFlows}
use Rattle.ofit_top.specs.Job.{JobGives, HasFits}
use Rattle.ofit_top.specs.Verify.{answer_to, VerifyGives}
use Rattle.ofit_top.specs.VerifyUnimodal.{peak_answer_to, VerifyUnimodalGives}
use Rattle.ofit_top.proofs.OnePeakVerdict.{one_peak_verdict}

-- the verdict that is told so
abbrev untold : said_of.Verdict → Verdict
untold said_of.settings_differ = verdicts.Settings
untold said_of.size_differs = verdicts.Size
untold (said_of.group_missing place) = verdicts.GroupMissing place
untold (said_of.disobeys index) = verdicts.Disobeys index
untold (said_of.out_of_bounds place) = verdicts.OutOfBounds place
untold (said_of.flow_not_pair number) = verdicts.FlowNotPair number
untold (said_of.flow_order number) = verdicts.FlowOrder number
untold (said_of.flow_not_tight number) = verdicts.FlowNotTight number
untold (said_of.balance_outside place) = verdicts.Balance place
untold said_of.passes = verdicts.Passes

untold-told : (v : Verdict) → untold (told v) ≡ v
untold-told verdicts.Settings = refl
untold-told verdicts.Size = refl
untold-told (verdicts.GroupMissing place) = refl
untold-told (verdicts.Disobeys index) = refl
untold-told (verdicts.OutOfBounds place) = refl
untold-told (verdicts.FlowNotPair number) = refl
untold-told (verdicts.FlowOrder number) = refl
untold-told (verdicts.FlowNotTight number) = refl
untold-told (verdicts.Balance place) = refl
untold-told verdicts.Passes = refl

one_told : (v w : Verdict) → told v ≡ told w → v ≡ w
one_told v w e = sym (untold-told v) ∙ ap untold e ∙ untold-told w

-- a sheet is told one verdict
one_said : (s : Study) (sheet : num.Sheet Settings) (a b : Answer) (t u : List ℕ) (x : VerifyGives s sheet a t) (y : VerifyGives s sheet b u) → x.said ≡ y.said
one_said s sheet a b t u x y = one_told x.said y.said (one_verdict (meaning_of s.settings.loss) (problem_stated s) s.settings sheet (told x.said) (told y.said) x.first y.first)

-- and so is a peaked one
abbrev pub peak_untold : peak_of.PeakVerdict → PeakVerdict
peak_untold peak_of.settings_differ = peaks.Settings
peak_untold (peak_of.shape_breaks place) = peaks.Shape place
peak_untold peak_of.cost_differs = peaks.Cost
peak_untold (peak_of.rise_breaks number place) = peaks.Rise number place
peak_untold (peak_of.fall_breaks number place) = peaks.Fall number place
peak_untold (peak_of.not_least number) = peaks.NotLeast number
peak_untold peak_of.passes = peaks.Passes

peak_untold-told : (v : PeakVerdict) → peak_untold (peak_told v) ≡ v
peak_untold-told peaks.Settings = refl
peak_untold-told (peaks.Shape place) = refl
peak_untold-told peaks.Cost = refl
peak_untold-told (peaks.Rise number place) = refl
peak_untold-told (peaks.Fall number place) = refl
peak_untold-told (peaks.NotLeast number) = refl
peak_untold-told peaks.Passes = refl

one_peak_told : (v w : PeakVerdict) → peak_told v ≡ peak_told w → v ≡ w
one_peak_told v w e = sym (peak_untold-told v) ∙ ap peak_untold e ∙ peak_untold-told w

one_peak_said : (s : Study) (peaked : Peaked) (a b : Answer) (t u : List ℕ) (x : VerifyUnimodalGives s peaked a t) (y : VerifyUnimodalGives s peaked b u) → x.said ≡ y.said
one_peak_said s peaked a b t u x y =
    one_peak_told x.said y.said (one_peak_verdict (problem_stated s) s.settings.places peaked (peak_told x.said) (peak_told y.said) x.first y.first)

pub one_answer : (ready : Ready) (a b : Answer) (t u : List ℕ) → JobGives ready a t → JobGives ready b u → a ≡ b
one_answer (Fit s) a b t u x y = x.0 ∙ sym y.0
one_answer (Report s) a b t u x y = x.0 ∙ sym y.0
one_answer (Verify s sheet) a b t u x y = x.answered ∙ ap answer_to (one_said s sheet a b t u x y) ∙ sym y.answered
one_answer (VerifyUnimodal s peaked) a b t u x y = x.answered ∙ ap peak_answer_to (one_peak_said s peaked a b t u x y) ∙ sym y.answered
one_answer (Session s lines) a b t u x y = x.0 ∙ sym y.0
one_answer (Unimodal s) a b t u x y = x.0 ∙ sym y.0
one_answer (Levels k) a b t u x y = x.0 ∙ sym y.0
one_answer (Sample made) a b t u x y = x.0 ∙ sym y.0

-- the study that edits start from is a valid one
abbrev pub IsSound : Ready → Type 0
IsSound (Session s lines) = IsValid s
IsSound ready = ⊤

-- a script fits so many components
abbrev pub ScriptFitsAreOne : Type 0
ScriptFitsAreOne = (s : Study) → IsValid s → (r : ℕ) (lines : List Line) (a b : Study) (t u : List ℕ) (n m : ℕ) → ScriptGives r s lines a t n → ScriptGives r s lines b u m → n ≡ m

-- and where it prints no sheet its text is one
abbrev pub ScriptTextsAreOne : Type 0
ScriptTextsAreOne = (s : Study) → IsValid s → (r : ℕ) (lines : List Line) (a b : Study) (t u : List ℕ) (n m : ℕ) → (Contains lines line.Sheet → ⊥)
    → ScriptGives r s lines a t n → ScriptGives r s lines b u m → t ≡ u

-- a sample fits so many components
abbrev pub SampleFitsAreOne : Type 0
SampleFitsAreOne = (made : SampleJob) (s t : Study) (m n : ℕ) → IsMade made s → IsMade made t → HasComponentCount (problem_stated s) m → HasComponentCount (problem_stated t) n → m ≡ n

-- and its summary is one
abbrev pub SampleTextsAreOne : Type 0
SampleTextsAreOne = (made : SampleJob) (a b : List ℕ) → SampleText made a → SampleText made b → a ≡ b

pub one_fits : ScriptFitsAreOne → SampleFitsAreOne → (ready : Ready) → IsSound ready → (n m : ℕ) → HasFits ready n → HasFits ready m → n ≡ m
one_fits scripts samples (Fit s) v n m x y = one_count (problem_stated s) n m x y
one_fits scripts samples (Report s) v n m x y = one_count (problem_stated s) n m x y
one_fits scripts samples (Verify s sheet) v n m x y = x ∙ sym y
one_fits scripts samples (Session s lines) v n m (a, j, c, f, e) (b, k, d, g, i) =
    e ∙ ap₂ (λ (p q : ℕ). p + q) (one_count (problem_stated s) a b c d) (scripts s v 1 lines f.0 g.0 f.1 g.1 j k f.2 g.2) ∙ sym i
one_fits scripts samples (Unimodal s) v n m x y = x ∙ sym y
one_fits scripts samples (VerifyUnimodal s peaked) v n m x y = x ∙ sym y
one_fits scripts samples (Levels k) v n m x y = x ∙ sym y
one_fits scripts samples (Sample made) v n m x y = samples made x.0 y.0 n m x.1 y.1 x.2 y.2

-- a study has one report
abbrev pub ReportsAreOne : Type 0
ReportsAreOne = (s : Study) (t u : List ℕ) → IsReportOf s t → IsReportOf s u → t ≡ u

-- a job whose text holds no flows
pub one_text : ReportsAreOne → ScriptTextsAreOne → SampleTextsAreOne → (ready : Ready) → IsSound ready → (a b : Answer) (t u : List ℕ) → (HasFlows ready → ⊥) → JobGives ready a t → JobGives ready b u → t ≡ u
one_text reports scripts samples (Fit s) v a b t u n x y = absurd (n tt)
one_text reports scripts samples (Report s) v a b t u n x y = reports s t u x.1 y.1
one_text reports scripts samples (Session s lines) v a b t u n x y = scripts s v 1 lines x.1.0 y.1.0 t u x.1.1 y.1.1 n x.1.2 y.1.2
one_text reports scripts samples (Unimodal s) v a b t u n x y = absurd (n tt)
one_text reports scripts samples (Sample made) v a b t u n x y = samples made t u x.1 y.1
one_text reports scripts samples (Verify s sheet) v a b t u n x y = x.line ∙ ap (verdict_text s) (one_said s sheet a b t u x y) ∙ sym y.line
one_text reports scripts samples (VerifyUnimodal s peaked) v a b t u n x y = x.line ∙ ap (peak_verdict_text s) (one_peak_said s peaked a b t u x y) ∙ sym y.line
one_text reports scripts samples (Levels k) v a b t u n x y = x.1 ∙ sym y.1
