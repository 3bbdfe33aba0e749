-- Where nothing refuses and nothing fails, the job is done.
use Rattle.std.proofs.Common.{◌≡◌, ◌⊎◌, inl, inr, ℕ, List, refl, subst}
use Rattle.std.specs.Prelude.{Result, Ok, Err}
use Rattle.ofit_outside.specs.Faults.{Rose}
use Rattle.ofit_words.specs.declared.fault.WordFault.{WordFault}
use Rattle.ofit_words.specs.declared.job.Job.{Job}
use Rattle.ofit_words.specs.Words.{WordsRead}
use Rattle.ofit_input.specs.declared.ready.Ready.{Ready}
use Rattle.ofit_input.specs.declared.refusal.Refusal.{Refusal}
use Rattle.ofit_input.specs.Ready.{ReadyGives}
use Rattle.ofit_answer.specs.declared.answer.Answer.{Answer}
use Rattle.ofit_answer.specs.declared.answer.Answer.TheVariants.{ReadFault, WriteFault, Memory}
use Rattle.ofit_top.specs.Done.{IsDone}
use Rattle.ofit_top.specs.Run.{FilesGive, WordsGive, Wrote, Writes, CountsRead, CountsWrite}
use Rattle.ofit_top.specs.State.{State}
use Rattle.ofit_top.proofs.OneRun.{WordsAreOne}

module _ (words : List (List ℕ)) (job : Job) (before after : State) (one : WordsAreOne words) (asked : WordsRead words (Ok job)) (none : (refusal : Refusal) → ReadyGives before.held job (Err refusal) → ⊥) where
  ready_done : (answer : Answer) (fits : ℕ) (w : Wrote words before after answer fits) (given : Result Ready Refusal) → ReadyGives before.held job given → FilesGive given answer w.text fits → IsDone job before after answer
  ready_done answer fits w (Err refusal) r x = absurd (none refusal r)
  ready_done answer fits w (Ok ready) r x = record { ready = ready; given = r; text = w.text; gives = x.0; put = w.put }

  wrote_done : (answer : Answer) (fits : ℕ) → Wrote words before after answer fits → IsDone job before after answer
  wrote_done answer fits w =
      let g : WordsGive before.held (Ok job) answer w.text fits =
      subst (λ (read : Result Job WordFault). WordsGive before.held read answer w.text fits) (one w.gives.read (Ok job) w.gives.reads asked) w.gives.gives in
      ready_done answer fits w g.0 g.1 g.2

  pub accepted : (answer : Answer) → (Rose before.read_faults after.read_faults → ⊥) → (Rose before.write_faults after.write_faults → ⊥)
      → Writes words before after answer → CountsRead before after answer → CountsWrite before after answer → (answer ≡ Memory) ⊎ IsDone job before after answer
  accepted ReadFault r w written reads puts = absurd (r reads)
  accepted WriteFault r w written reads puts = absurd (w puts)
  accepted Memory r w written reads puts = inl refl
  accepted answer r w written reads puts = inr (wrote_done answer written.0 written.1)
