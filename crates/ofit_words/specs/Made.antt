-- The job that is made of a call without a fault before its bounds.
use Rattle.std.specs.Prelude.{◌≡◌, ℕ, List, [], ◌∷◌, Result, Ok, Err, ⊤}
use Rattle.ofit_study.specs.declared.settings.Settings.{Settings}
use Rattle.ofit_study.specs.Settings.{InLimits}
use Rattle.ofit_words.specs.declared.command.Command.{Command}
use Rattle.ofit_words.specs.declared.command.Command.TheVariants as commands
use Rattle.ofit_words.specs.declared.job.Inputs.{Inputs}
use Rattle.ofit_words.specs.declared.job.Job.{Job}
use Rattle.ofit_words.specs.declared.fault.WordFault.{WordFault}
use Rattle.ofit_words.specs.declared.fault.WordFault.TheVariants.{LevelOutOfRange, BoundsCross, Memory}
use Rattle.ofit_words.specs.Values.{IsNumberIn}
use Rattle.ofit_words.specs.Words.{SettingsOf, Cross, InputsOf, IsJob}
use Rattle.ofit_words.specs.JobLimits.{IsJobInLimits}

-- the command wants a level, and its name isn't one
abbrev pub IsNoLevel : Command → List (List ℕ) → Type 0
IsNoLevel c names = (c ≡ commands.Levels) × ((level : List ℕ) × (names ≡ level ∷ []) × ((k : ℕ) → IsNumberIn 1 34 level k → ⊥))

-- the bounds of these words cross
abbrev pub DoCross : List (List ℕ) → Type 0
DoCross words = (settings : Settings) × SettingsOf words settings × Cross settings.lo settings.hi

abbrev pub InputsMade : List ℕ → List (List ℕ) → Result Inputs WordFault → Type 0
InputsMade table words (Ok inputs) = InputsOf table words inputs × InLimits inputs.settings
InputsMade table words (Err BoundsCross) = DoCross words
InputsMade table words (Err Memory) = ⊤
InputsMade table words (Err other) = ⊥

abbrev pub JobMade : Command → List (List ℕ) → List (List ℕ) → Result Job WordFault → Type 0
JobMade c names words (Ok job) = IsJob c names words job × IsJobInLimits job
JobMade c names words (Err BoundsCross) = DoCross words
JobMade c names words (Err Memory) = ⊤
JobMade c names words (Err LevelOutOfRange) = IsNoLevel c names
JobMade c names words (Err other) = ⊥
