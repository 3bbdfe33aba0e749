-- What the steps of a run say of their results.
use Rattle.std.specs.Prelude.{ℕ, List, Option, Result, Ok, Err}
use Rattle.ofit_outside.specs.Folder.{Held}
use Rattle.ofit_num.specs.Tally.{Counts}
use Rattle.ofit_input.specs.declared.ready.Ready.{Ready}
use Rattle.ofit_answer.specs.declared.answer.Answer.{Answer}
use Rattle.ofit_top.specs.Counting.{IsCounted}
use Rattle.ofit_top.specs.Job.{JobGives, HasFits}
use Rattle.ofit_top.specs.Run.{AskFor, Writes, CountsFits, CountsRead, CountsWrite}
use Rattle.ofit_top.specs.State.{State, state}

-- the fits of the job are counted
pub record CountsJob (ready : Ready) (before after : Counts) : Type 0 where
  pub fits : ℕ
  pub has : HasFits ready fits
  pub counted : IsCounted fits before after

-- the answer of a run, whichever way it came
abbrev pub either : Result Answer Answer → Answer
either (Ok answer) = answer
either (Err answer) = answer

-- what a run's clauses say of its answer
pub record Ends (words : List (List ℕ)) (before after : State) (answer : Answer) : Type 0 where
  pub written : Writes words before after answer
  pub counted : CountsFits words before after answer
  pub reads : CountsRead before after answer
  pub puts : CountsWrite before after answer

-- what a run's clauses say of its answer, whatever the output is, where it ends before the tally counts
pub record EndsUnread (words : List (List ℕ)) (held : Option Held) (faults_before faults_after : ℕ) (answer : Answer) : Type 0 where
  pub ends : (held_after : Option Held) (written : Option (List ℕ)) (write_faults : ℕ) (counts : Counts)
      → Ends words (state held faults_before written write_faults counts) (state held_after faults_after written write_faults counts) answer

-- and where it ends before the output is written
pub record EndsUnwritten (words : List (List ℕ)) (held : Option Held) (faults_before faults_after : ℕ) (counts_before counts_after : Counts) (answer : Answer) : Type 0 where
  pub ends : (held_after : Option Held) (written : Option (List ℕ)) (write_faults : ℕ)
      → Ends words (state held faults_before written write_faults counts_before) (state held_after faults_after written write_faults counts_after) answer

-- the job that the words ask for gives this answer and text, and its fits are counted
pub record Prints (words : List (List ℕ)) (held : Option Held) (before after : Counts) (answer : Answer) (text : List ℕ) : Type 0 where
  pub ready : Ready
  pub asked : AskFor words held ready
  pub gives : JobGives ready answer text
  pub counts : CountsJob ready before after
