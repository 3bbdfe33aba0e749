-- That a job is done whose words and files are accepted.
use Rattle.std.specs.Prelude.{◌≡◌, ℕ, List, Ok}
use Rattle.ofit_outside.specs.Sink.{with_more}
use Rattle.ofit_words.specs.declared.job.Job.{Job}
use Rattle.ofit_input.specs.declared.ready.Ready.{Ready}
use Rattle.ofit_input.specs.Ready.{ReadyGives}
use Rattle.ofit_answer.specs.declared.answer.Answer.{Answer}
use Rattle.ofit_top.specs.Job.{JobGives}
use Rattle.ofit_top.specs.State.{State}

-- the answer is the job's own, Done or the exact verdict, and its whole text came
pub record IsDone (job : Job) (before after : State) (answer : Answer) : Type 0 where
  pub ready : Ready
  pub given : ReadyGives before.held job (Ok ready)
  pub text : List ℕ
  pub gives : JobGives ready answer text
  pub put : after.written ≡ with_more before.written text
