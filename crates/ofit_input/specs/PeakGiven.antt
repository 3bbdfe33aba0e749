-- What the files of a fit of an unknown peak give: a study and a peaked sheet, or the first refusal.
use Rattle.std.specs.Prelude.{◌≡◌, ◌⊎◌, ◌<◌, ◌≤◌, ℕ, List, length, Option, None, Result, Ok, Err}
use Rattle.ofit_outside.specs.Folder.{Held}
use Rattle.ofit_records.specs.Records.{records_of}
use Rattle.ofit_study.specs.declared.loss.LossKind.TheVariants.{Median}
use Rattle.ofit_study.specs.declared.settings.Settings.{Settings}
use Rattle.ofit_study.specs.Study.{Study, IsValid, names_of}
use Rattle.ofit_sheet.specs.declared.fault.SheetFault.TheVariants as sheet_fault
use Rattle.ofit_sheet.specs.declared.peaked.limits.TheConstants.{MOST_PEAK_GROUPS}
use Rattle.ofit_sheet.specs.Peaked.{Peaked}
use Rattle.ofit_sheet.specs.PeakedRead.{PeakedRead}
use Rattle.ofit_input.specs.declared.refusal.Which.TheVariants as which
use Rattle.ofit_input.specs.declared.refusal.Refusal.{Refusal}
use Rattle.ofit_input.specs.declared.refusal.Refusal.TheVariants as refusal
use Rattle.ofit_input.specs.Files.{FileGives}
use Rattle.ofit_input.specs.Given.{TableGives}

-- the median, and no bounds
abbrev pub peak_settings : ℕ → Settings
peak_settings places = record { loss = Median; places = places; lo = None; hi = None }

-- The study of a table, which is a valid one of at most 200 groups; no order is read.
abbrev pub PeakStudyGives : Option Held → List ℕ → ℕ → Result Study Refusal → Type 0
PeakStudyGives held table places (Ok study) = TableGives held table (peak_settings places) (Ok study) × (length (names_of study) ≤ MOST_PEAK_GROUPS) × IsValid study
PeakStudyGives held table places (Err why) =
    TableGives held table (peak_settings places) (Err why)
    ⊎ ((study : Study) × TableGives held table (peak_settings places) (Ok study) × (MOST_PEAK_GROUPS < length (names_of study)) × (why ≡ refusal.TooManyForPeak))

-- the peaked sheet of this name, for the study that names its groups
abbrev pub PeakedGives : Option Held → List ℕ → Study → Result Peaked Refusal → Type 0
PeakedGives held name study = FileGives (λ bytes. PeakedRead (names_of study) (records_of bytes)) refusal.Sheet sheet_fault.Memory held name which.Sheet
