-- How the ending of a step becomes that of a run.
use Rattle.std.proofs.Common.{◌≡◌, ◌⊎◌, inl, inr, ℕ, ◌+◌, ◌<◌, ◌≤◌, List, [], refl, sym, ap, ◌∙◌, subst, arith, length}
use Rattle.std.specs.Prelude.{Option, Result, Ok, Err, IsErrOf, IsErrAnd, IfErr}
use Rattle.std.proofs.lemmas.Result.{err_from_is_err_and}
use Rattle.ofit_outside.specs.Faults.{Rose}
use Rattle.ofit_outside.specs.Folder.{Held}
use Rattle.ofit_outside.specs.Sink.{with_more, GainsPrefix}
use Rattle.ofit_num.specs.Tally.{Counts}
use Rattle.ofit_words.specs.declared.fault.WordFault.{WordFault}
use Rattle.ofit_words.specs.declared.fault.WordFault.TheVariants as fault
use Rattle.ofit_words.specs.declared.job.Job.{Job}
use Rattle.ofit_words.specs.Words.{WordsRead}
use Rattle.ofit_check.specs.declared.verdict.Verdict.{Verdict}
use Rattle.ofit_check.specs.declared.verdict.Verdict.TheVariants as verdict
use Rattle.ofit_check.specs.declared.peak.verdict.PeakVerdict.{PeakVerdict}
use Rattle.ofit_check.specs.declared.peak.verdict.PeakVerdict.TheVariants as peak
use Rattle.ofit_input.specs.declared.ready.Ready.{Ready}
use Rattle.ofit_input.specs.declared.ready.Ready.TheVariants.{Fit, Report, Verify, Session, Unimodal, VerifyUnimodal, Levels, Sample}
use Rattle.ofit_input.specs.declared.stop.Stop.{Stop}
use Rattle.ofit_input.specs.declared.stop.Stop.TheVariants as stop
use Rattle.ofit_input.specs.Ready.{ReadyGives, NamesFile}
use Rattle.ofit_input.specs.Stops.{Stops}
use Rattle.ofit_input.proofs.Results.{ok_apart, err_same}
use Rattle.ofit_answer.specs.declared.answer.Answer.{Answer}
use Rattle.ofit_answer.specs.declared.answer.Answer.TheVariants.{Done, Fails, FailsPeak, Words, Refused, WriteFault, Memory}
use Rattle.ofit_answer.specs.Endings.{word_answer, stop_answer}
use Rattle.ofit_top.specs.Counting.{IsCounted, CountsWithin}
use Rattle.ofit_top.specs.Steps.{CountsJob, either, Ends, EndsUnread, EndsUnwritten}
use Rattle.ofit_top.specs.Job.{JobGives, HasFits}
use Rattle.ofit_top.specs.Run.{RunGives, Wrote, WroteInPart, AskFor}
use Rattle.ofit_top.specs.State.{State, state}
use Rattle.ofit_top.specs.Verify.{answer_to}
use Rattle.ofit_top.specs.VerifyUnimodal.{peak_answer_to}
use Rattle.ofit_top.proofs.Pieces.{with_more-nil}

-- the output and the tally are as before, and what failed besides is told apart
pub record Leaves (before after : State) : Type 0 where
  pub written : after.written ≡ before.written
  pub counts : after.counts ≡ before.counts
  pub write_faults : after.write_faults ≡ before.write_faults

none_counted : (before after : State) → after.counts ≡ before.counts → IsCounted 0 before.counts after.counts
none_counted before after e = record {
  fits_are = ap (λ (c : Counts). c.fits) e ∙ omega arith;
  least_cuts = subst (λ (n : ℕ). before.counts.cuts ≤ n) (sym (ap (λ (c : Counts). c.cuts) e)) (omega arith);
  most_cuts = subst (λ (n : ℕ). n ≤ before.counts.cuts + 0) (sym (ap (λ (c : Counts). c.cuts) e)) (omega arith);
}

-- a run that memory ended before it counted
memory_end : (words : List (List ℕ)) (before after : State) → Leaves before after → after.read_faults ≡ before.read_faults → Ends words before after Memory
memory_end words before after same reads = record { written = same.written; counted = inl same.counts; reads = reads; puts = same.write_faults }

-- an answer without a text, which the run gives
bare_wrote : (words : List (List ℕ)) (before after : State) (answer : Answer) → Leaves before after → RunGives words before.held answer [] 0 → Wrote words before after answer 0
bare_wrote words before after answer same gives = record { text = []; gives = gives; put = same.written ∙ with_more-nil before.written }

-- the words have a fault
pub words_end : (words : List (List ℕ)) (before after : State) → Leaves before after → after.read_faults ≡ before.read_faults
    → (f : WordFault) → (f ≡ fault.Memory) ⊎ WordsRead words (Err f) → Ends words before after (word_answer f)
words_end words before after same reads f (inl e) = subst (λ (g : WordFault). Ends words before after (word_answer g)) (sym e) (memory_end words before after same reads)
words_end words before after same reads f (inr read) = at f read
  where
    bare : (g : WordFault) → WordsRead words (Err g) → Wrote words before after (Words g) 0
    bare g read = bare_wrote words before after (Words g) same (record { read = Err g; reads = read; gives = record { answered = refl; empty = refl; none = refl } })

    at : (g : WordFault) → WordsRead words (Err g) → Ends words before after (word_answer g)
    at fault.Memory read = absurd read
    at g read = record { written = (0, bare g read); counted = (0, bare g read, none_counted before after same.counts); reads = reads; puts = same.write_faults }

-- the files are refused, or the folder fails, or memory is wanting
pub stop_end : (words : List (List ℕ)) (before after : State) (job : Job) (s : Stop) → WordsRead words (Ok job) → Leaves before after
    → Stops before.read_faults after.read_faults (λ refusal. ReadyGives before.held job (Err refusal)) s → (s ≡ stop.ReadFault → NamesFile job)
    → Ends words before after (stop_answer s)
stop_end words before after job (stop.Refused refusal) read same (cause, reads) named =
    let bare : Wrote words before after (Refused refusal) 0 =
    bare_wrote words before after (Refused refusal) same (record { read = Ok job; reads = read; gives = (Err refusal, cause, record { answered = refl; empty = refl; none = refl }) }) in
    record { written = (0, bare); counted = (0, bare, none_counted before after same.counts); reads = reads; puts = same.write_faults }
stop_end words before after job stop.ReadFault read same rose named = record { written = (record { job = job; read = read; names = named refl }, same.written); counted = same.counts; reads = rose; puts = same.write_faults }
stop_end words before after job stop.Memory read same reads named = memory_end words before after same reads

-- the run that a job gives
gives_run : (words : List (List ℕ)) (before : State) (ready : Ready) (answer : Answer) (text : List ℕ) (fits : ℕ) → AskFor words before.held ready → JobGives ready answer text → HasFits ready fits
    → RunGives words before.held answer text fits
gives_run words before ready answer text fits asked gives has = record { read = Ok asked.job; reads = asked.read; gives = (Ok ready, asked.given, (gives, has)) }

-- memory was wanting for the job
pub wanting_end : (words : List (List ℕ)) (before after : State) (ready : Ready) → AskFor words before.held ready → after.written ≡ before.written → CountsWithin ready before.counts after.counts
    → after.read_faults ≡ before.read_faults → after.write_faults ≡ before.write_faults → Ends words before after Memory
wanting_end words before after ready asked written within reads writes = record { written = written; counted = inr (ready, asked, within); reads = reads; puts = writes }

-- the output failed
pub part_end : (words : List (List ℕ)) (before after : State) (ready : Ready) (answer : Answer) (text : List ℕ) → AskFor words before.held ready → JobGives ready answer text → CountsJob ready before.counts after.counts
    → 0 < length text → GainsPrefix before.written after.written text → after.read_faults ≡ before.read_faults → Rose before.write_faults after.write_faults → Ends words before after WriteFault
part_end words before after ready answer text asked gives counts some put reads rose = record {
  written = (counts.fits, part);
  counted = (counts.fits, part, counts.counted);
  reads = reads;
  puts = rose;
}
  where
    part : WroteInPart words before after counts.fits
    part = record { answer = answer; text = text; some = some; gives = gives_run words before ready answer text counts.fits asked gives counts.has; put = put }

-- a job's answer goes with its output
abbrev IsOutput : Answer → Type 0
IsOutput answer = (answer ≡ Done) ⊎ ((said : Verdict) × (answer ≡ Fails said)) ⊎ ((said : PeakVerdict) × (answer ≡ FailsPeak said))

of_verdict : (said : Verdict) → IsOutput (answer_to said)
of_verdict verdict.Passes = inl refl
of_verdict said = inr (inl (said, refl))

of_peak_verdict : (said : PeakVerdict) → IsOutput (peak_answer_to said)
of_peak_verdict peak.Passes = inl refl
of_peak_verdict said = inr (inr (said, refl))

of_job : (ready : Ready) (answer : Answer) (text : List ℕ) → JobGives ready answer text → IsOutput answer
of_job (Fit s) answer text x = inl x.0
of_job (Report s) answer text x = inl x.0
of_job (Verify s sheet) answer text x = subst IsOutput (sym x.answered) (of_verdict x.said)
of_job (Session s lines) answer text x = inl x.0
of_job (Unimodal s) answer text x = inl x.0
of_job (Sample made) answer text x = inl x.0
of_job (VerifyUnimodal s peaked) answer text x = subst IsOutput (sym x.answered) (of_peak_verdict x.said)
of_job (Levels k) answer text x = inl x.0

-- the whole output came
pub job_end : (words : List (List ℕ)) (before after : State) (ready : Ready) (answer : Answer) (text : List ℕ) → AskFor words before.held ready → JobGives ready answer text → CountsJob ready before.counts after.counts
    → after.written ≡ with_more before.written text → after.read_faults ≡ before.read_faults → after.write_faults ≡ before.write_faults → Ends words before after answer
job_end words before after ready answer text asked gives counts put reads writes = elim (of_job ready answer text gives) [
  | inl e ↦ subst (Ends words before after) (sym e) (record { written = (counts.fits, at Done e); counted = (counts.fits, at Done e, counts.counted); reads = reads; puts = writes })
  | inr (inl (said, e)) ↦ subst (Ends words before after) (sym e) (record { written = (counts.fits, at (Fails said) e); counted = (counts.fits, at (Fails said) e, counts.counted); reads = reads; puts = writes })
  | inr (inr (said, e)) ↦ subst (Ends words before after) (sym e) (record { written = (counts.fits, at (FailsPeak said) e); counted = (counts.fits, at (FailsPeak said) e, counts.counted); reads = reads; puts = writes })
]
  where
    at : (a : Answer) → answer ≡ a → Wrote words before after a counts.fits
    at a e = record { text = text; gives = subst (λ (x : Answer). RunGives words before.held x text counts.fits) e (gives_run words before ready answer text counts.fits asked gives counts.has); put = put }

-- what words are read as, where memory wasn't wanting
pub is_read : (words : List (List ℕ)) (job : Job) → IsErrOf {T = Job} {E = WordFault} (Ok job) fault.Memory ⊎ WordsRead words (Ok job) → WordsRead words (Ok job)
is_read words job (inl h) = absurd (ok_apart job fault.Memory h)
is_read words job (inr h) = h

pub is_fault : (words : List (List ℕ)) (f : WordFault) → IsErrOf {T = Job} {E = WordFault} (Err f) fault.Memory ⊎ WordsRead words (Err f) → (f ≡ fault.Memory) ⊎ WordsRead words (Err f)
is_fault words f (inl h) = inl (err_same {T = Job} f fault.Memory h)
is_fault words f (inr h) = inr h

-- a fault that `?` turned into an answer
pub at_err : {T : Type 0} (r : Result T Answer) (answer : Answer) (P : Answer → Type 0) → IsErrAnd r (λ y. y ≡ answer) → P answer → IfErr r P
at_err r answer P h x =
    let p : (y : Answer) × (r ≡ Err y) × (y ≡ answer) = err_from_is_err_and r h in
    subst (λ z. IfErr z P) (sym p.1) (subst P (sym p.2) x)

pub turned : (words : List (List ℕ)) (before after : State) (r : Result Answer Answer) (answer : Answer) → IsErrAnd r (λ y. y ≡ answer) → Ends words before after answer → Ends words before after (either r)
turned words before after r answer h ends =
    let p : (y : Answer) × (r ≡ Err y) × (y ≡ answer) = err_from_is_err_and r h in
    subst (λ (x : Result Answer Answer). Ends words before after (either x)) (sym p.1) (subst (Ends words before after) (sym p.2) ends)

-- the steps of a run
pub words_unread : (words : List (List ℕ)) (held : Option Held) (faults : ℕ) (f : WordFault) → IsErrOf {T = Job} {E = WordFault} (Err f) fault.Memory ⊎ WordsRead words (Err f)
    → EndsUnread words held faults faults (word_answer f)
words_unread words held faults f h = record {
  ends = λ held_after written write_faults counts.
      words_end words (state held faults written write_faults counts) (state held_after faults written write_faults counts) (record { written = refl; counts = refl; write_faults = refl }) refl f (is_fault words f h);
}

pub stop_unread : (words : List (List ℕ)) (held : Option Held) (before after : ℕ) (job : Job) (s : Stop) → IsErrOf {T = Job} {E = WordFault} (Ok job) fault.Memory ⊎ WordsRead words (Ok job)
    → Stops before after (λ refusal. ReadyGives held job (Err refusal)) s → (s ≡ stop.ReadFault → NamesFile job) → EndsUnread words held before after (stop_answer s)
stop_unread words held before after job s h stops named = record {
  ends = λ held_after written write_faults counts.
      stop_end words (state held before written write_faults counts) (state held_after after written write_faults counts) job s (is_read words job h) (record { written = refl; counts = refl; write_faults = refl }) stops named;
}

pub wanting_unwritten : (words : List (List ℕ)) (held : Option Held) (before after : ℕ) (old new : Counts) (ready : Ready) → AskFor words held ready → after ≡ before → CountsWithin ready old new
    → EndsUnwritten words held before after old new Memory
wanting_unwritten words held before after old new ready asked reads within = record {
  ends = λ held_after written write_faults.
      wanting_end words (state held before written write_faults old) (state held_after after written write_faults new) ready asked refl within reads refl;
}

pub unread_unwritten : (words : List (List ℕ)) (held : Option Held) (before after : ℕ) (counts : Counts) (answer : Answer) → EndsUnread words held before after answer → EndsUnwritten words held before after counts counts answer
unread_unwritten words held before after counts answer unread = record { ends = λ held_after written write_faults. unread.ends held_after written write_faults counts }

pub ends_same : (words : List (List ℕ)) (before after : State) (a b : Answer) → b ≡ a → Ends words before after a → Ends words before after b
ends_same words before after a b e ends = subst (Ends words before after) (sym e) ends
