-- The fault of one setting, and the first fault of all of them.
use Rattle.std.specs.Prelude.{◌≡◌, ℕ, ◌+◌, List, [], ◌∷◌, ◌++◌, length, Result, Ok, Err, ⊤}
use Rattle.ofit_words.specs.declared.command.Command.{Command}
use Rattle.ofit_words.specs.declared.fault.WordFault.{WordFault}
use Rattle.ofit_words.specs.declared.fault.WordFault.TheVariants.{UnknownSetting, RepeatedSetting, BadSetting, Memory}
use Rattle.ofit_words.specs.Commands.{name_count}
use Rattle.ofit_words.specs.Given.{IsUnknown, IsRepeated, IsBad, IsFine, AreFine}

-- what is found of a setting at this place behind those before it
abbrev pub Judged : {A : Type 0} → Command → ℕ → ℕ → List (List ℕ) → List ℕ → ℕ → Result A WordFault → Type 0
Judged command places groups before word place (Ok x) = IsFine command places groups before word
Judged command places groups before word place (Err (UnknownSetting n)) = (n ≡ place) × IsUnknown command word
Judged command places groups before word place (Err (RepeatedSetting n)) = (n ≡ place) × IsRepeated command before word
Judged command places groups before word place (Err (BadSetting n)) = (n ≡ place) × IsBad command places groups before word
Judged command places groups before word place (Err Memory) = ⊤
Judged command places groups before word place (Err other) = ⊥

-- the first setting with a fault, and this one
pub record HasFault (command : Command) (places groups : ℕ) (words : List (List ℕ)) (fault : WordFault) : Type 0 where
  pub before : List (List ℕ)
  pub word : List ℕ
  pub after : List (List ℕ)
  pub spells : words ≡ before ++ word ∷ after
  pub fine : AreFine command places groups [] before
  pub judged : Judged {A = ⊤} command places groups before word (1 + name_count command + length before) (Err fault)

abbrev pub UnlessMemory : WordFault → Type 0 → Type 0
UnlessMemory Memory P = ⊤
UnlessMemory other P = P

-- what is found of all of the settings
abbrev pub Checked : {A : Type 0} → Command → ℕ → ℕ → List (List ℕ) → Result A WordFault → Type 0
Checked command places groups words (Ok x) = AreFine command places groups [] words
Checked command places groups words (Err fault) = UnlessMemory fault (HasFault command places groups words fault)
