-- What the words of a call are read as: a job, or the first fault.
use Rattle.std.specs.Prelude.{◌≡◌, ℕ, ◌+◌, ◌<◌, List, [], ◌∷◌, ◌++◌, length, Option, Some, None, Result, Ok, Err, ℤ, ◌<ℤ◌}
use Rattle.ofit_num.specs.declared.limits.TheConstants.{MOST_GROUPS}
use Rattle.ofit_study.specs.declared.loss.LossKind.TheVariants.{Squares}
use Rattle.ofit_study.specs.declared.settings.Settings.{Settings}
use Rattle.ofit_study.specs.declared.pattern.Pattern.TheVariants as pattern
use Rattle.ofit_study.specs.Settings.{InOrder}
use Rattle.ofit_words.specs.declared.command.Command.{Command}
use Rattle.ofit_words.specs.declared.command.Command.TheVariants as commands
use Rattle.ofit_words.specs.declared.key.Key.TheVariants.{Order, Loss, Places, Lo, Hi, Seed, Groups, Rows, Shape}
use Rattle.ofit_words.specs.declared.job.OrderChoice.TheVariants.{Shaped}
use Rattle.ofit_words.specs.declared.job.Kind.TheVariants.{General}
use Rattle.ofit_words.specs.declared.job.Inputs.{Inputs}
use Rattle.ofit_words.specs.declared.job.SampleJob.{SampleJob}
use Rattle.ofit_words.specs.declared.job.Job.{Job}
use Rattle.ofit_words.specs.declared.job.Job.TheVariants.{Fit, Report, Verify, Session, Unimodal, VerifyUnimodal, Levels, Sample}
use Rattle.ofit_words.specs.declared.fault.WordFault.{WordFault}
use Rattle.ofit_words.specs.declared.fault.WordFault.TheVariants.{NoCommand, UnknownCommand, MissingName, LevelOutOfRange, UnknownSetting, RepeatedSetting, BadSetting, BoundsCross, Memory}
use Rattle.ofit_words.specs.Commands.{command_name, name_count}
use Rattle.ofit_words.specs.Values.{IsNumberIn, IsListedLoss, IsKind, IsBound, IsOrder}
use Rattle.ofit_words.specs.Given.{InForce, AreInForce, IsUnknown, IsRepeated, IsBad, AreFine}

-- the one name is a level
abbrev pub IsLevel : List (List ℕ) → ℕ → Type 0
IsLevel names k = (level : List ℕ) × (names ≡ level ∷ []) × IsNumberIn 1 34 level k

-- the words are a command, as many names as it has, a level among the good ones, and then settings
pub record IsCall (words : List (List ℕ)) (command : Command) (names settings : List (List ℕ)) : Type 0 where
  pub spells : words ≡ command_name command ∷ (names ++ settings)
  pub as_many : length names ≡ name_count command
  pub level : command ≡ commands.Levels → (k : ℕ) × IsLevel names k

-- the word at this place is the first of the settings that may have a fault
pub record FirstAt (words : List (List ℕ)) (place : ℕ) (command : Command) (places groups : ℕ) (before : List (List ℕ)) (word : List ℕ) : Type 0 where
  pub names : List (List ℕ)
  pub after : List (List ℕ)
  pub call : IsCall words command names (before ++ word ∷ after)
  pub in_force : AreInForce (before ++ word ∷ after) places groups
  pub fine : AreFine command places groups [] before
  pub at : place ≡ 1 + name_count command + length before

-- the settings have no fault
pub record AllFine (words : List (List ℕ)) (command : Command) (names settings : List (List ℕ)) : Type 0 where
  pub places : ℕ
  pub groups : ℕ
  pub call : IsCall words command names settings
  pub in_force : AreInForce settings places groups
  pub fine : AreFine command places groups [] settings

pub record SettingsOf (words : List (List ℕ)) (settings : Settings) : Type 0 where
  pub loss : InForce words Loss IsListedLoss Squares settings.loss
  pub places : InForce words Places (IsNumberIn 0 6) 3 settings.places
  pub lo : InForce words Lo (IsBound settings.places) None settings.lo
  pub hi : InForce words Hi (IsBound settings.places) None settings.hi

-- lo is above hi
abbrev pub Cross : Option ℤ → Option ℤ → Type 0
Cross (Some l) (Some h) = h <ℤ l
Cross lo hi = ⊥

pub record InputsOf (name : List ℕ) (words : List (List ℕ)) (inputs : Inputs) : Type 0 where
  pub table : inputs.table ≡ name
  pub order : InForce words Order IsOrder (Shaped pattern.Chain) inputs.order
  pub settings : SettingsOf words inputs.settings
  pub bounds : InOrder inputs.settings.lo inputs.settings.hi

pub record SampleOf (words : List (List ℕ)) (job : SampleJob) : Type 0 where
  pub seed : InForce words Seed (IsNumberIn 0 4294967295) 1 job.seed
  pub groups : InForce words Groups (IsNumberIn 1 MOST_GROUPS) 100 job.groups
  pub rows : InForce words Rows (IsNumberIn job.groups 10000) job.groups job.rows
  pub kind : InForce words Shape IsKind General job.kind
  pub loss : InForce words Loss IsListedLoss Squares job.loss

-- the job of a command with these names and settings
abbrev pub IsJob : Command → List (List ℕ) → List (List ℕ) → Job → Type 0
IsJob command names words (Fit inputs) = (command ≡ commands.Fit) × ((table : List ℕ) × (names ≡ table ∷ []) × InputsOf table words inputs)
IsJob command names words (Report inputs) = (command ≡ commands.Report) × ((table : List ℕ) × (names ≡ table ∷ []) × InputsOf table words inputs)
IsJob command names words (Verify inputs sheet) = (command ≡ commands.Verify) × ((table : List ℕ) × (names ≡ table ∷ sheet ∷ []) × InputsOf table words inputs)
IsJob command names words (Session inputs script) = (command ≡ commands.Session) × ((table : List ℕ) × (names ≡ table ∷ script ∷ []) × InputsOf table words inputs)
IsJob command names words (Unimodal table places) = (command ≡ commands.Unimodal) × (names ≡ table ∷ []) × InForce words Places (IsNumberIn 0 6) 3 places
IsJob command names words (VerifyUnimodal table sheet places) = (command ≡ commands.VerifyUnimodal) × (names ≡ table ∷ sheet ∷ []) × InForce words Places (IsNumberIn 0 6) 3 places
IsJob command names words (Levels k) = (command ≡ commands.Levels) × IsLevel names k
IsJob command names words (Sample job) = (command ≡ commands.Sample) × SampleOf words job

-- The job, or the first fault: no command, an unknown one, a name that is missing, a level out of range; then the
-- faults of the settings by rising place; then bounds that cross. Want of memory is no reading.
abbrev pub WordsRead : List (List ℕ) → Result Job WordFault → Type 0
WordsRead words (Ok job) = (command : Command) × (names : List (List ℕ)) × (settings : List (List ℕ)) × AllFine words command names settings × IsJob command names settings job
WordsRead words (Err NoCommand) = words ≡ []
WordsRead words (Err UnknownCommand) = (first : List ℕ) × (rest : List (List ℕ)) × (words ≡ first ∷ rest) × ((command : Command) → first ≡ command_name command → ⊥)
WordsRead words (Err MissingName) = (command : Command) × (rest : List (List ℕ)) × (words ≡ command_name command ∷ rest) × (length rest < name_count command)
WordsRead words (Err LevelOutOfRange) = (level : List ℕ) × (rest : List (List ℕ)) × (words ≡ command_name commands.Levels ∷ (level ∷ rest)) × ((k : ℕ) → IsNumberIn 1 34 level k → ⊥)
WordsRead words (Err (UnknownSetting place)) = (command : Command) × (places : ℕ) × (groups : ℕ) × (before : List (List ℕ)) × (word : List ℕ) × FirstAt words place command places groups before word × IsUnknown command word
WordsRead words (Err (RepeatedSetting place)) = (command : Command) × (places : ℕ) × (groups : ℕ) × (before : List (List ℕ)) × (word : List ℕ) × FirstAt words place command places groups before word × IsRepeated command before word
WordsRead words (Err (BadSetting place)) = (command : Command) × (places : ℕ) × (groups : ℕ) × (before : List (List ℕ)) × (word : List ℕ) × FirstAt words place command places groups before word × IsBad command places groups before word
WordsRead words (Err BoundsCross) = (command : Command) × (names : List (List ℕ)) × (words' : List (List ℕ)) × (settings : Settings) × AllFine words command names words' × SettingsOf words' settings × Cross settings.lo settings.hi
WordsRead words (Err Memory) = ⊥
