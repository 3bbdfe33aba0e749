-- A run over a told folder ends in one way.
use Rattle.std.proofs.Common.{◌≡◌, ℕ, List, refl, sym, ap, ◌∙◌, subst}
use Rattle.std.specs.Prelude.{Option, Some, Result, Ok, Err}
use Rattle.ofit_outside.specs.Folder.{Held}
use Rattle.ofit_study.specs.Study.{Study}
use Rattle.ofit_words.specs.declared.fault.WordFault.{WordFault}
use Rattle.ofit_words.specs.declared.job.Job.{Job}
use Rattle.ofit_words.specs.declared.job.Job.TheVariants as job
use Rattle.ofit_words.specs.Words.{WordsRead}
use Rattle.ofit_input.specs.declared.ready.Ready.{Ready}
use Rattle.ofit_input.specs.declared.ready.Ready.TheVariants.{Session}
use Rattle.ofit_input.specs.declared.refusal.Refusal.{Refusal}
use Rattle.ofit_input.specs.Ready.{ReadyGives}
use Rattle.ofit_answer.specs.declared.answer.Answer.{Answer}
use Rattle.ofit_top.specs.Flows.{HasFlows}
use Rattle.ofit_top.specs.Run.{IsBare, FilesGive, WordsGive, RunGives, AskFor}
use Rattle.ofit_top.proofs.OneEnd.{IsSound, ReportsAreOne, ScriptFitsAreOne, ScriptTextsAreOne, SampleFitsAreOne, SampleTextsAreOne, one_answer, one_fits, one_text}

-- words have one reading
abbrev pub WordsAreOne : List (List ℕ) → Type 0
WordsAreOne words = (r t : Result Job WordFault) → WordsRead words r → WordsRead words t → r ≡ t

-- a job works on one thing
abbrev pub JobsAreOne : Held → Type 0
JobsAreOne h = (named : Job) (a b : Result Ready Refusal) → ReadyGives (Some h) named a → ReadyGives (Some h) named b → a ≡ b

-- the words ask for no text with flows
abbrev pub AskForNoFlows : List (List ℕ) → Held → Type 0
AskForNoFlows words h = (ready : Ready) → AskFor words (Some h) ready → HasFlows ready → ⊥

-- both answers, counts of fits and texts are the same
record Same (words : List (List ℕ)) (h : Held) (a b : Answer) (t u : List ℕ) (n m : ℕ) : Type 0 where
  answer : a ≡ b
  fits : n ≡ m
  text : AskForNoFlows words h → t ≡ u

bare_same : (words : List (List ℕ)) (h : Held) (a b is : Answer) (t u : List ℕ) (n m : ℕ) → IsBare a is t n → IsBare b is u m → Same words h a b t u n m
bare_same words h a b is t u n m x y = record { answer = x.answered ∙ sym y.answered; fits = x.none ∙ sym y.none; text = λ none. x.empty ∙ sym y.empty }

-- edits start from the study that the files give
sound : (held : Option Held) (named : Job) (ready : Ready) → ReadyGives held named (Ok ready) → IsSound ready
sound held (job.Session inputs name) (Session s lines) x = x.0.3
sound held (job.Fit inputs) (Session s lines) x = absurd x
sound held (job.Report inputs) (Session s lines) x = absurd x
sound held (job.Verify inputs name) (Session s lines) x = absurd x
sound held (job.Unimodal table places) (Session s lines) x = absurd x
sound held (job.VerifyUnimodal table name places) (Session s lines) x = absurd x
sound held (job.Levels k) (Session s lines) x = absurd x
sound held (job.Sample made) (Session s lines) x = absurd x
sound held named ready x = tt

module _ (reports : ReportsAreOne) (script_fits : ScriptFitsAreOne) (script_texts : ScriptTextsAreOne) (sample_fits : SampleFitsAreOne) (sample_texts : SampleTextsAreOne) (h : Held) (jobs : JobsAreOne h)
    (words : List (List ℕ)) where
  same_files : (named : Job) → WordsRead words (Ok named) → (given : Result Ready Refusal) (a b : Answer) (t u : List ℕ) (n m : ℕ) → ReadyGives (Some h) named given → FilesGive given a t n → FilesGive given b u m
      → Same words h a b t u n m
  same_files named asked (Err refusal) a b t u n m r x y = bare_same words h a b _ t u n m x y
  same_files named asked (Ok ready) a b t u n m r x y =
      let v : IsSound ready = sound (Some h) named ready r in
      record {
        answer = one_answer ready a b t u x.0 y.0;
        fits = one_fits script_fits sample_fits ready v n m x.1 y.1;
        text = λ none. one_text reports script_texts sample_texts ready v a b t u (none ready (record { job = named; read = asked; given = r })) x.0 y.0;
      }

  same_words : (read : Result Job WordFault) → WordsRead words read → (a b : Answer) (t u : List ℕ) (n m : ℕ) → WordsGive (Some h) read a t n → WordsGive (Some h) read b u m → Same words h a b t u n m
  same_words (Err fault) asked a b t u n m x y = bare_same words h a b _ t u n m x y
  same_words (Ok named) asked a b t u n m (g, r, x) (k, s, y) =
      same_files named asked g a b t u n m r x (subst (λ (given : Result Ready Refusal). FilesGive given b u m) (jobs named k g s r) y)

  pub one_run : WordsAreOne words → (a b : Answer) (t u : List ℕ) (n m : ℕ) → RunGives words (Some h) a t n → RunGives words (Some h) b u m → (a ≡ b) × (n ≡ m) × (AskForNoFlows words h → t ≡ u)
  one_run one a b t u n m x y = (same.answer, same.fits, same.text)
    where
      same : Same words h a b t u n m
      same = same_words x.read x.reads a b t u n m x.gives (subst (λ (read : Result Job WordFault). WordsGive (Some h) read b u m) (one y.read x.read y.reads x.reads) y.gives)
