-- What a run answers, writes and counts.
use Rattle.std.specs.Prelude.{◌≡◌, ◌⊎◌, ◌<◌, ℕ, List, [], length, map, Option, Result, Ok, Err, String, string_bytes}
use Rattle.std.specs.declared.alloc.Global.{Global}
use Rattle.ofit_outside.specs.Faults.{Rose}
use Rattle.ofit_outside.specs.Folder.{Held}
use Rattle.ofit_outside.specs.Sink.{with_more, GainsPrefix}
use Rattle.ofit_words.specs.declared.job.Job.{Job}
use Rattle.ofit_words.specs.declared.fault.WordFault.{WordFault}
use Rattle.ofit_words.specs.Words.{WordsRead}
use Rattle.ofit_input.specs.declared.ready.Ready.{Ready}
use Rattle.ofit_input.specs.declared.refusal.Refusal.{Refusal}
use Rattle.ofit_input.specs.Ready.{ReadyGives, NamesFile}
use Rattle.ofit_answer.specs.declared.answer.Answer.{Answer}
use Rattle.ofit_answer.specs.declared.answer.Answer.TheVariants.{Words, Refused, ReadFault, WriteFault, Memory}
use Rattle.ofit_top.specs.Job.{JobGives, HasFits}
use Rattle.ofit_top.specs.Counting.{IsCounted, CountsWithin}
use Rattle.ofit_top.specs.State.{State}

-- the bytes of each word
abbrev pub texts : List (String Global) → List (List ℕ)
texts words = map string_bytes words

-- the answer goes without a text and without a fit
pub record IsBare (answer is : Answer) (text : List ℕ) (fits : ℕ) : Type 0 where
  pub answered : answer ≡ is
  pub empty : text ≡ []
  pub none : fits ≡ 0

-- what the files give is refused, or the job is done with it
abbrev pub FilesGive : Result Ready Refusal → Answer → List ℕ → ℕ → Type 0
FilesGive (Err refusal) answer text fits = IsBare answer (Refused refusal) text fits
FilesGive (Ok ready) answer text fits = JobGives ready answer text × HasFits ready fits

-- the words have a fault, or the files of their job are read
abbrev pub WordsGive : Option Held → Result Job WordFault → Answer → List ℕ → ℕ → Type 0
WordsGive held (Err fault) answer text fits = IsBare answer (Words fault) text fits
WordsGive held (Ok job) answer text fits = (given : Result Ready Refusal) × ReadyGives held job given × FilesGive given answer text fits

-- What a run without faults of the folder or the output answers, writes and counts: first the words are read, then the files, and then the job is done.
pub record RunGives (words : List (List ℕ)) (held : Option Held) (answer : Answer) (text : List ℕ) (fits : ℕ) : Type 0 where
  pub read : Result Job WordFault
  pub reads : WordsRead words read
  pub gives : WordsGive held read answer text fits

-- the whole text of the answer came after what was there
pub record Wrote (words : List (List ℕ)) (before after : State) (answer : Answer) (fits : ℕ) : Type 0 where
  pub text : List ℕ
  pub gives : RunGives words before.held answer text fits
  pub put : after.written ≡ with_more before.written text

-- a first part of the text of an answer came after what was there
pub record WroteInPart (words : List (List ℕ)) (before after : State) (fits : ℕ) : Type 0 where
  pub answer : Answer
  pub text : List ℕ
  pub some : 0 < length text
  pub gives : RunGives words before.held answer text fits
  pub put : GainsPrefix before.written after.written text

-- the words ask for a job that names a file
pub record AskToRead (words : List (List ℕ)) : Type 0 where
  pub job : Job
  pub read : WordsRead words (Ok job)
  pub names : NamesFile job

-- the words ask for a job whose files give this
pub record AskFor (words : List (List ℕ)) (held : Option Held) (ready : Ready) : Type 0 where
  pub job : Job
  pub read : WordsRead words (Ok job)
  pub given : ReadyGives held job (Ok ready)

-- What is written: the whole text of the answer. Where the output fails it is a first part; where the folder fails or memory is wanting, nothing.
abbrev pub Writes : List (List ℕ) → State → State → Answer → Type 0
Writes words before after ReadFault = AskToRead words × (after.written ≡ before.written)
Writes words before after Memory = after.written ≡ before.written
Writes words before after WriteFault = (fits : ℕ) × WroteInPart words before after fits
Writes words before after answer = (fits : ℕ) × Wrote words before after answer fits

-- What is counted: the fits of the job whose text came, whole or in part. Where memory is wanting it is at most those of a job that was ready; where the folder fails, nothing.
abbrev pub CountsFits : List (List ℕ) → State → State → Answer → Type 0
CountsFits words before after ReadFault = after.counts ≡ before.counts
CountsFits words before after Memory = (after.counts ≡ before.counts) ⊎ ((ready : Ready) × AskFor words before.held ready × CountsWithin ready before.counts after.counts)
CountsFits words before after WriteFault = (fits : ℕ) × WroteInPart words before after fits × IsCounted fits before.counts after.counts
CountsFits words before after answer = (fits : ℕ) × Wrote words before after answer fits × IsCounted fits before.counts after.counts

-- the folder's faults rose where the answer is a read fault, and stayed elsewhere
abbrev pub CountsRead : State → State → Answer → Type 0
CountsRead before after ReadFault = Rose before.read_faults after.read_faults
CountsRead before after answer = after.read_faults ≡ before.read_faults

-- and those of the output where it is a write fault
abbrev pub CountsWrite : State → State → Answer → Type 0
CountsWrite before after WriteFault = Rose before.write_faults after.write_faults
CountsWrite before after answer = after.write_faults ≡ before.write_faults
