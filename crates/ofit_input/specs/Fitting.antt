-- That what a job works on fits together and is within the limits of its work.
use Rattle.std.specs.Prelude.{◌≡◌, ⊤, ◌≤◌, ℕ, length}
use Rattle.ofit_num.specs.Sheet.{FitsCount}
use Rattle.ofit_sheet.specs.declared.peaked.limits.TheConstants.{MOST_PEAK_GROUPS}
use Rattle.ofit_sheet.specs.Peaked.{IsShaped}
use Rattle.ofit_study.specs.Study.{names_of}
use Rattle.ofit_words.specs.declared.job.Job.TheVariants as job
use Rattle.ofit_words.specs.JobLimits.{IsJobInLimits}
use Rattle.ofit_input.specs.PeakGiven.{peak_settings}
use Rattle.ofit_input.specs.declared.ready.Ready.{Ready}
use Rattle.ofit_input.specs.declared.ready.Ready.TheVariants.{Verify, Unimodal, VerifyUnimodal, Levels, Sample}

-- A sheet to be verified has places and ends among the study's groups, a peaked one a rise and a fall for each of them. The study of an unknown peak has the settings of one.
abbrev pub IsFitting : Ready → Type 0
IsFitting (Verify study sheet) = FitsCount (length (names_of study)) sheet
IsFitting (Unimodal study) = (length (names_of study) ≤ MOST_PEAK_GROUPS) × ((places : ℕ) × (study.settings ≡ peak_settings places))
IsFitting (VerifyUnimodal study peaked) = (length (names_of study) ≤ MOST_PEAK_GROUPS) × IsShaped (length (names_of study)) peaked
IsFitting (Levels k) = (1 ≤ k) × (k ≤ 34)
IsFitting (Sample made) = IsJobInLimits (job.Sample made)
IsFitting ready = ⊤
