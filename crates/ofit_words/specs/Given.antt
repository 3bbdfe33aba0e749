-- What the settings give: the values of their keys, and the faults of a single one.
use Rattle.std.specs.Prelude.{◌≡◌, ℕ, true, List, [], ◌∷◌, ◌++◌, Option, Some, None, ◌⊎◌, ⊤}
use Rattle.std.specs.List.{AllByRecursion}
use Rattle.ofit_num.specs.declared.limits.TheConstants.{MOST_GROUPS}
use Rattle.ofit_words.specs.declared.command.Command.{Command}
use Rattle.ofit_words.specs.declared.key.Key.{Key}
use Rattle.ofit_words.specs.declared.key.Key.TheVariants.{Places, Groups}
use Rattle.ofit_words.specs.Commands.{has_key, Sets}
use Rattle.ofit_words.specs.Values.{IsNumberIn, IsGood}

-- none of the words sets the key
abbrev pub NoneSets : List (List ℕ) → Key → Type 0
NoneSets words key = AllByRecursion (λ word. (value : List ℕ) → Sets word key value → ⊥) words

-- the first of the words that sets the key sets it to this value, or none does
abbrev pub Given : List (List ℕ) → Key → Option (List ℕ) → Type 0
Given words key None = NoneSets words key
Given words key (Some value) = (before : List (List ℕ)) × (word : List ℕ) × (after : List (List ℕ))
    × (words ≡ before ++ word ∷ after) × Sets word key value × NoneSets before key

-- what a value is read as: the default where there is none or it isn't good
abbrev pub IsReadAs : {A : Type 0} → (List ℕ → A → Type 0) → A → A → Option (List ℕ) → Type 0
IsReadAs P default x None = x ≡ default
IsReadAs {A} P default x (Some value) = P value x ⊎ (((y : A) → P value y → ⊥) × (x ≡ default))

-- x is in force for the key: what the first word that sets it is read as
abbrev pub InForce : {A : Type 0} → List (List ℕ) → Key → (List ℕ → A → Type 0) → A → A → Type 0
InForce words key P default x = (given : Option (List ℕ)) × Given words key given × IsReadAs P default x given

-- the places and the count of groups in force
pub record AreInForce (words : List (List ℕ)) (places groups : ℕ) : Type 0 where
  pub for_places : InForce words Places (IsNumberIn 0 6) 3 places
  pub for_groups : InForce words Groups (IsNumberIn 1 MOST_GROUPS) 100 groups

-- the word has no `=`, or the command doesn't have its key
abbrev pub IsUnknown : Command → List ℕ → Type 0
IsUnknown command word = (key : Key) (value : List ℕ) → has_key command key ≡ true → Sets word key value → ⊥

-- one of the words before it sets its key
pub record IsRepeated (command : Command) (before : List (List ℕ)) (word : List ℕ) : Type 0 where
  pub key : Key
  pub value : List ℕ
  pub has : has_key command key ≡ true
  pub sets : Sets word key value
  pub earlier : List ℕ
  pub given : Given before key (Some earlier)

-- it is the first that sets its key, and the key may not have its value
pub record IsBad (command : Command) (places groups : ℕ) (before : List (List ℕ)) (word : List ℕ) : Type 0 where
  pub key : Key
  pub value : List ℕ
  pub has : has_key command key ≡ true
  pub sets : Sets word key value
  pub first : NoneSets before key
  pub bad : IsGood places groups key value → ⊥

-- it has no fault
pub record IsFine (command : Command) (places groups : ℕ) (before : List (List ℕ)) (word : List ℕ) : Type 0 where
  pub key : Key
  pub value : List ℕ
  pub has : has_key command key ≡ true
  pub sets : Sets word key value
  pub first : NoneSets before key
  pub good : IsGood places groups key value

-- none of the words has a fault behind those before it
abbrev pub AreFine : Command → ℕ → ℕ → List (List ℕ) → List (List ℕ) → Type 0
AreFine command places groups before [] = ⊤
AreFine command places groups before (word ∷ words) = IsFine command places groups before word × AreFine command places groups (before ++ word ∷ []) words
