-- What a job works on once its files are read, or the first refusal.
use Rattle.std.specs.Prelude.{◌≡◌, ◌⊎◌, ⊤, Option, Result, Ok, Err}
use Rattle.ofit_outside.specs.Folder.{Held}
use Rattle.ofit_study.specs.Study.{Study}
use Rattle.ofit_words.specs.declared.job.Job.{Job}
use Rattle.ofit_words.specs.declared.job.Job.TheVariants as job
use Rattle.ofit_input.specs.declared.ready.Ready.{Ready}
use Rattle.ofit_input.specs.declared.ready.Ready.TheVariants.{Fit, Report, Verify, Session, Unimodal, VerifyUnimodal, Levels, Sample}
use Rattle.ofit_input.specs.declared.refusal.Refusal.{Refusal}
use Rattle.ofit_input.specs.Given.{StudyGives, SheetGives, LinesGive}
use Rattle.ofit_input.specs.PeakGiven.{PeakStudyGives, PeakedGives}

-- The files of a job in the order of its steps: the table, the order, the sheet or the script. A level table and a sample read none.
abbrev pub ReadyGives : Option Held → Job → Result Ready Refusal → Type 0
ReadyGives held (job.Fit inputs) (Ok (Fit study)) = StudyGives held inputs (Ok study)
ReadyGives held (job.Fit inputs) (Err refusal) = StudyGives held inputs (Err refusal)
ReadyGives held (job.Report inputs) (Ok (Report study)) = StudyGives held inputs (Ok study)
ReadyGives held (job.Report inputs) (Err refusal) = StudyGives held inputs (Err refusal)
ReadyGives held (job.Verify inputs name) (Ok (Verify study sheet)) = StudyGives held inputs (Ok study) × SheetGives held name study (Ok sheet)
ReadyGives held (job.Verify inputs name) (Err refusal) = StudyGives held inputs (Err refusal) ⊎ ((study : Study) × StudyGives held inputs (Ok study) × SheetGives held name study (Err refusal))
ReadyGives held (job.Session inputs name) (Ok (Session study lines)) = StudyGives held inputs (Ok study) × LinesGive held name inputs.settings (Ok lines)
ReadyGives held (job.Session inputs name) (Err refusal) = StudyGives held inputs (Err refusal) ⊎ ((study : Study) × StudyGives held inputs (Ok study) × LinesGive held name inputs.settings (Err refusal))
ReadyGives held (job.Unimodal table places) (Ok (Unimodal study)) = PeakStudyGives held table places (Ok study)
ReadyGives held (job.Unimodal table places) (Err refusal) = PeakStudyGives held table places (Err refusal)
ReadyGives held (job.VerifyUnimodal table name places) (Ok (VerifyUnimodal study peaked)) = PeakStudyGives held table places (Ok study) × PeakedGives held name study (Ok peaked)
ReadyGives held (job.VerifyUnimodal table name places) (Err refusal) = PeakStudyGives held table places (Err refusal) ⊎ ((study : Study) × PeakStudyGives held table places (Ok study) × PeakedGives held name study (Err refusal))
ReadyGives held (job.Levels k) (Ok (Levels n)) = n ≡ k
ReadyGives held (job.Sample made) (Ok (Sample given)) = given ≡ made
ReadyGives held named given = ⊥

-- the job names a file
abbrev pub NamesFile : Job → Type 0
NamesFile (job.Levels k) = ⊥
NamesFile (job.Sample made) = ⊥
NamesFile named = ⊤
