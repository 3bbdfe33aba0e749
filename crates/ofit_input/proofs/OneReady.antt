-- What a job works on over a told folder is given in one way.
use Rattle.std.proofs.Common.{◌≡◌, ◌⊎◌, inl, inr, ℕ, List, refl, sym, ap, ◌∙◌, subst}
use Rattle.std.specs.Prelude.{Some, Result, Ok, Err}
use Rattle.ofit_outside.specs.Folder.{Held}
use Rattle.ofit_study.specs.declared.settings.Settings.{Settings}
use Rattle.ofit_study.specs.Study.{Study}
use Rattle.ofit_words.specs.declared.job.Inputs.{Inputs}
use Rattle.ofit_words.specs.declared.job.Job.{Job}
use Rattle.ofit_words.specs.declared.job.Job.TheVariants as job
use Rattle.ofit_input.specs.declared.ready.Ready.{Ready}
use Rattle.ofit_input.specs.declared.ready.Ready.TheVariants.{Fit, Report, Verify, Session, Unimodal, VerifyUnimodal, Levels, Sample}
use Rattle.ofit_input.specs.declared.refusal.Refusal.{Refusal}
use Rattle.ofit_script.specs.declared.line.Line.{Line}
use Rattle.ofit_words.specs.declared.job.SampleJob.{SampleJob}
use Rattle.ofit_input.specs.Given.{StudyGives, SheetGives, LinesGive}
use Rattle.ofit_input.specs.PeakGiven.{PeakStudyGives, PeakedGives}
use Rattle.ofit_input.specs.Ready.{ReadyGives}
use Rattle.ofit_input.proofs.Results.{ok_same, err_same, ok_apart}

-- a result with its value or its fault carried along
abbrev carried : {S T : Type 0} → (S → T) → Result S Refusal → Result T Refusal
carried f (Ok x) = Ok (f x)
carried f (Err refusal) = Err refusal

-- what is given in one way
abbrev pub IsOne : {T : Type 0} → (Result T Refusal → Type 0) → Type 0
IsOne {T} Gives = (a b : Result T Refusal) → Gives a → Gives b → a ≡ b

-- a study is given, and the job works on it
abbrev OnOne : (Study → Ready) → (Result Study Refusal → Type 0) → Result Ready Refusal → Type 0
OnOne f First a = (r : Result Study Refusal) × First r × (a ≡ carried f r)

one_on_one : (f : Study → Ready) (First : Result Study Refusal → Type 0) → IsOne First → IsOne (OnOne f First)
one_on_one f First one a b (r, x, e) (t, y, d) = e ∙ ap (carried f) (one r t x y) ∙ sym d

-- or a study, and what is read for it
abbrev OnTwo : {X : Type 0} → (Study → X → Ready) → (Result Study Refusal → Type 0) → (Study → Result X Refusal → Type 0) → Result Ready Refusal → Type 0
OnTwo {X} f First Second a =
    ((refusal : Refusal) × First (Err refusal) × (a ≡ Err refusal))
    ⊎ ((study : Study) × First (Ok study) × ((r : Result X Refusal) × Second study r × (a ≡ carried (f study) r)))

module _ {X : Type 0} (f : Study → X → Ready) (First : Result Study Refusal → Type 0) (Second : Study → Result X Refusal → Type 0) (one : IsOne First) (then : (study : Study) → IsOne (Second study)) where
  one_on_two : IsOne (OnTwo f First Second)
  one_on_two a b (inl (r, x, e)) (inl (t, y, d)) = e ∙ ap Err (err_same {T = Study} r t (one (Err r) (Err t) x y)) ∙ sym d
  one_on_two a b (inl (r, x, e)) (inr (s, y, k)) = absurd (ok_apart s r (one (Ok s) (Err r) y x))
  one_on_two a b (inr (s, x, k)) (inl (t, y, d)) = absurd (ok_apart s t (one (Ok s) (Err t) x y))
  one_on_two a b (inr (s, x, (r, k, e))) (inr (o, y, (t, l, d))) =
      let same : s ≡ o = ok_same s o (one (Ok s) (Ok o) x y) in
      e ∙ ap (carried (f s)) (then s r t k (subst (λ (study : Study). Second study t) (sym same) l))
      ∙ ap (λ (study : Study). carried (f study) t) same ∙ sym d

module _ (h : Held) where
  on_fit : (inputs : Inputs) (a : Result Ready Refusal) → ReadyGives (Some h) (job.Fit inputs) a → OnOne Fit (StudyGives (Some h) inputs) a
  on_fit inputs (Ok (Fit study)) x = (Ok study, x, refl)
  on_fit inputs (Ok ready) x = absurd x
  on_fit inputs (Err refusal) x = (Err refusal, x, refl)

  on_report : (inputs : Inputs) (a : Result Ready Refusal) → ReadyGives (Some h) (job.Report inputs) a → OnOne Report (StudyGives (Some h) inputs) a
  on_report inputs (Ok (Report study)) x = (Ok study, x, refl)
  on_report inputs (Ok ready) x = absurd x
  on_report inputs (Err refusal) x = (Err refusal, x, refl)

  on_verify : (inputs : Inputs) (name : List ℕ) (a : Result Ready Refusal) → ReadyGives (Some h) (job.Verify inputs name) a → OnTwo Verify (StudyGives (Some h) inputs) (SheetGives (Some h) name) a
  on_verify inputs name (Ok (Verify study sheet)) (x, y) = inr (study, x, (Ok sheet, y, refl))
  on_verify inputs name (Ok ready) x = absurd x
  on_verify inputs name (Err refusal) (inl x) = inl (refusal, x, refl)
  on_verify inputs name (Err refusal) (inr (study, x, y)) = inr (study, x, (Err refusal, y, refl))

  on_session : (inputs : Inputs) (name : List ℕ) (a : Result Ready Refusal) → ReadyGives (Some h) (job.Session inputs name) a → OnTwo Session (StudyGives (Some h) inputs) (λ study. LinesGive (Some h) name inputs.settings) a
  on_session inputs name (Ok (Session study lines)) (x, y) = inr (study, x, (Ok lines, y, refl))
  on_session inputs name (Ok ready) x = absurd x
  on_session inputs name (Err refusal) (inl x) = inl (refusal, x, refl)
  on_session inputs name (Err refusal) (inr (study, x, y)) = inr (study, x, (Err refusal, y, refl))

  on_unimodal : (table : List ℕ) (places : ℕ) (a : Result Ready Refusal) → ReadyGives (Some h) (job.Unimodal table places) a → OnOne Unimodal (PeakStudyGives (Some h) table places) a
  on_unimodal table places (Ok (Unimodal study)) x = (Ok study, x, refl)
  on_unimodal table places (Ok ready) x = absurd x
  on_unimodal table places (Err refusal) x = (Err refusal, x, refl)

  on_peaked : (table name : List ℕ) (places : ℕ) (a : Result Ready Refusal) → ReadyGives (Some h) (job.VerifyUnimodal table name places) a
      → OnTwo VerifyUnimodal (PeakStudyGives (Some h) table places) (PeakedGives (Some h) name) a
  on_peaked table name places (Ok (VerifyUnimodal study peaked)) (x, y) = inr (study, x, (Ok peaked, y, refl))
  on_peaked table name places (Ok ready) x = absurd x
  on_peaked table name places (Err refusal) (inl x) = inl (refusal, x, refl)
  on_peaked table name places (Err refusal) (inr (study, x, y)) = inr (study, x, (Err refusal, y, refl))

  on_levels : (k : ℕ) (a : Result Ready Refusal) → ReadyGives (Some h) (job.Levels k) a → a ≡ Ok (Levels k)
  on_levels k (Ok (Levels n)) x = ap (λ (m : ℕ). Ok (Levels m)) x
  on_levels k (Ok ready) x = absurd x
  on_levels k (Err refusal) x = absurd x

  on_sample : (made : SampleJob) (a : Result Ready Refusal) → ReadyGives (Some h) (job.Sample made) a → a ≡ Ok (Sample made)
  on_sample made (Ok (Sample given)) x = ap (λ (m : SampleJob). Ok (Sample m)) x
  on_sample made (Ok ready) x = absurd x
  on_sample made (Err refusal) x = absurd x

  module _ (studies : (inputs : Inputs) → IsOne (StudyGives (Some h) inputs)) (sheets : (name : List ℕ) (study : Study) → IsOne (SheetGives (Some h) name study))
      (peak_studies : (table : List ℕ) (places : ℕ) → IsOne (PeakStudyGives (Some h) table places)) (peaked : (name : List ℕ) (study : Study) → IsOne (PeakedGives (Some h) name study))
      (scripts : (name : List ℕ) (settings : Settings) → IsOne (LinesGive (Some h) name settings)) where
    pub one_ready : (named : Job) → IsOne (ReadyGives (Some h) named)
    one_ready (job.Fit inputs) a b x y = one_on_one Fit (StudyGives (Some h) inputs) (studies inputs) a b (on_fit inputs a x) (on_fit inputs b y)
    one_ready (job.Report inputs) a b x y = one_on_one Report (StudyGives (Some h) inputs) (studies inputs) a b (on_report inputs a x) (on_report inputs b y)
    one_ready (job.Verify inputs name) a b x y =
        one_on_two Verify (StudyGives (Some h) inputs) (SheetGives (Some h) name) (studies inputs) (sheets name) a b (on_verify inputs name a x) (on_verify inputs name b y)
    one_ready (job.VerifyUnimodal table name places) a b x y =
        one_on_two VerifyUnimodal (PeakStudyGives (Some h) table places) (PeakedGives (Some h) name) (peak_studies table places) (peaked name) a b
        (on_peaked table name places a x) (on_peaked table name places b y)
    one_ready (job.Session inputs name) a b x y =
        one_on_two Session (StudyGives (Some h) inputs) (λ study. LinesGive (Some h) name inputs.settings) (studies inputs) (λ study. scripts name inputs.settings) a b (on_session inputs name a x) (on_session inputs name b y)
    one_ready (job.Unimodal table places) a b x y =
        one_on_one Unimodal (PeakStudyGives (Some h) table places) (peak_studies table places) a b (on_unimodal table places a x) (on_unimodal table places b y)
    one_ready (job.Levels k) a b x y = on_levels k a x ∙ sym (on_levels k b y)
    one_ready (job.Sample made) a b x y = on_sample made a x ∙ sym (on_sample made b y)
