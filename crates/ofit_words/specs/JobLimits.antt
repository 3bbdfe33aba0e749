-- Jobs that each call may be given.
use Rattle.std.specs.Prelude.{◌≤◌}
use Rattle.ofit_num.specs.declared.limits.TheConstants.{MOST_GROUPS}
use Rattle.ofit_study.specs.Loss.{IsListed}
use Rattle.ofit_study.specs.Settings.{InLimits}
use Rattle.ofit_words.specs.declared.job.Job.{Job}
use Rattle.ofit_words.specs.declared.job.Job.TheVariants.{Fit, Report, Verify, Session, Unimodal, VerifyUnimodal, Levels, Sample}

-- a job that each call which takes one may be given
abbrev pub IsJobInLimits : Job → Type 0
IsJobInLimits (Fit inputs) = InLimits inputs.settings
IsJobInLimits (Report inputs) = InLimits inputs.settings
IsJobInLimits (Verify inputs sheet) = InLimits inputs.settings
IsJobInLimits (Session inputs script) = InLimits inputs.settings
IsJobInLimits (Unimodal table places) = places ≤ 6
IsJobInLimits (VerifyUnimodal table sheet places) = places ≤ 6
IsJobInLimits (Levels k) = (1 ≤ k) × (k ≤ 34)
IsJobInLimits (Sample job) = (1 ≤ job.groups) × (job.groups ≤ MOST_GROUPS) × (job.groups ≤ job.rows) × (job.rows ≤ 10000) × IsListed job.loss
