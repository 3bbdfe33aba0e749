-- What a fit prints is verified.
use Rattle.std.proofs.Common.{◌≡◌, inl, inr, ℕ, ◌≤◌, List, length, refl, sym, ap, ◌∙◌, subst}
use Rattle.std.specs.Prelude.{Some, Result, Ok, Err, codes}
use Rattle.ofit_outside.specs.Folder.{Held}
use Rattle.ofit_study.specs.Study.{Study, IsValid}
use Rattle.ofit_words.specs.declared.fault.WordFault.{WordFault}
use Rattle.ofit_words.specs.declared.job.Inputs.{Inputs}
use Rattle.ofit_words.specs.declared.job.Job.{Job}
use Rattle.ofit_words.specs.declared.job.Job.TheVariants as job
use Rattle.ofit_words.specs.declared.job.OrderChoice.{OrderChoice}
use Rattle.ofit_words.specs.declared.job.OrderChoice.TheVariants.{Shaped, File}
use Rattle.ofit_words.specs.Words.{WordsRead}
use Rattle.ofit_check.specs.declared.verdict.Verdict.TheVariants as verdict
use Rattle.ofit_input.specs.declared.ready.Ready.{Ready}
use Rattle.ofit_input.specs.declared.ready.Ready.TheVariants.{Fit, Verify}
use Rattle.ofit_input.specs.declared.refusal.Refusal.{Refusal}
use Rattle.ofit_input.specs.Files.{IsFile}
use Rattle.ofit_input.specs.Given.{TableGives, OrderGives, StudyGives, SheetGives}
use Rattle.ofit_input.specs.Ready.{ReadyGives}
use Rattle.ofit_answer.specs.declared.answer.Answer.TheVariants.{Done, Refused}
use Rattle.ofit_top.specs.Beside.{HoldsBesides, IsInput}
use Rattle.ofit_top.specs.Fit.{IsFitOf}
use Rattle.ofit_top.specs.Run.{FilesGive, WordsGive, RunGives}
use Rattle.ofit_top.specs.Verify.{VerifyGives}
use Rattle.ofit_top.proofs.Few.{sheet_fits_file}
use Rattle.ofit_top.proofs.OneRun.{WordsAreOne}

-- a file besides doesn't change what another one is read as
module _ (h after : Held) (name text : List ℕ) (more : HoldsBesides h name text after) where
  same_file : (other bytes : List ℕ) → (other ≡ name → ⊥) → IsFile (Some h) other bytes → IsFile (Some after) other bytes
  same_file other bytes apart f = record { within = f.within; there = more.others other apart ∙ f.there }

  same_table : (inputs : Inputs) (s : Study) → (IsInput inputs name → ⊥) → TableGives (Some h) inputs.table inputs.settings (Ok s) → TableGives (Some after) inputs.table inputs.settings (Ok s)
  same_table inputs s apart (bytes, f, x) = (bytes, same_file inputs.table bytes (λ e. apart (inl e)) f, x)

  same_order : (choice : OrderChoice) (before s : Study) → (choice ≡ File name → ⊥) → OrderGives (Some h) choice before (Ok s) → OrderGives (Some after) choice before (Ok s)
  same_order (Shaped pattern) before s apart x = x
  same_order (File file) before s apart (bytes, f, x) = (bytes, same_file file bytes (λ e. apart (ap File e)) f, x)

  same_study : (inputs : Inputs) (s : Study) → (IsInput inputs name → ⊥) → StudyGives (Some h) inputs (Ok s) → StudyGives (Some after) inputs (Ok s)
  same_study inputs s apart (before, x, y, v) = (before, same_table inputs before apart x, same_order inputs.order before s (λ e. apart (inr e)) y, v)

  -- and the text itself is read as the sheet that was printed
  sheet_given : (s : Study) → IsValid s → (fit : IsFitOf s text) → SheetGives (Some after) name s (Ok fit.sheet)
  sheet_given s v fit =
      let short : length text ≤ 33554432 = subst (λ (t : List ℕ). length t ≤ 33554432) (sym fit.printed) (sheet_fits_file s fit.sheet v fit.fits fit.kept fit.passes) in
      (text, record { within = short; there = more.there }, fit.read_back)

  verified : (s : Study) (fit : IsFitOf s text) → VerifyGives s fit.sheet Done (codes "passes\n")
  verified s fit = record {
    said = verdict.Passes;
    first = fit.passes;
    best = λ e. record { count = fit.least_best.count; best = fit.least_best.least_best.best };
    answered = refl;
    line = refl;
  }

  -- so verifying it is done
  pub fit_verified : (words other : List (List ℕ)) (inputs : Inputs) (fits : ℕ) → WordsAreOne words → (IsInput inputs name → ⊥)
      → WordsRead words (Ok (job.Fit inputs)) → RunGives words (Some h) Done text fits → WordsRead other (Ok (job.Verify inputs name)) → RunGives other (Some after) Done (codes "passes\n") 0
  fit_verified words other inputs fits one apart asked run again =
      let g : WordsGive (Some h) (Ok (job.Fit inputs)) Done text fits =
      subst (λ (read : Result Job WordFault). WordsGive (Some h) read Done text fits) (one run.read (Ok (job.Fit inputs)) run.reads asked) run.gives in
      of_ready g.0 g.1 g.2
    where
      done : (refusal : Refusal) → Done ≡ Refused refusal → ⊥
      done refusal e = cc

      of_ready : (given : Result Ready Refusal) → ReadyGives (Some h) (job.Fit inputs) given → FilesGive given Done text fits → RunGives other (Some after) Done (codes "passes\n") 0
      of_ready (Err refusal) x bare = absurd (done refusal bare.answered)
      of_ready (Ok (Fit s)) x (gives, has) =
          let fit : IsFitOf s text = gives.1 in
          record {
            read = Ok (job.Verify inputs name);
            reads = again;
            gives = (Ok (Verify s fit.sheet), (same_study inputs s apart x, sheet_given s x.3 fit), (verified s fit, refl));
          }
      of_ready (Ok ready) x gives = absurd x
