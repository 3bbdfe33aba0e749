-- The settings of words, each read once.
use Rattle.std.specs.Prelude.{◌≡◌, ◌<◌, ℕ, ℤ, List, take, length, slice_get, Option, Some, None}
use Rattle.std.specs.List.{AllByRecursion, AllZip}
use Rattle.ofit_num.specs.declared.limits.TheConstants.{MOST_GROUPS}
use Rattle.ofit_study.specs.declared.loss.LossKind.{LossKind}
use Rattle.ofit_words.specs.declared.job.Kind.{Kind}
use Rattle.ofit_words.specs.declared.job.OrderChoice.{OrderChoice}
use Rattle.ofit_words.specs.declared.key.Key.{Key}
use Rattle.ofit_words.specs.declared.key.Key.TheVariants.{Order, Loss, Places, Lo, Hi, Seed, Groups, Rows, Shape}
use Rattle.ofit_words.specs.declared.setting.Setting.{Setting}
use Rattle.ofit_words.specs.declared.setting.Value.{Value}
use Rattle.ofit_words.specs.declared.setting.Value.TheVariants as value
use Rattle.ofit_words.specs.Commands.{Sets}
use Rattle.ofit_words.specs.Values.{IsNumberIn, IsListedLoss, IsKind, IsBound, IsOrder}
use Rattle.ofit_words.specs.Given.{Given, NoneSets}

-- what the key's text is read as where these places and this count of groups are in force
abbrev pub Reads : ℕ → ℕ → Key → List ℕ → Value → Type 0
Reads places groups Order text v = (x : OrderChoice) × (v ≡ value.Order x) × IsOrder text x
Reads places groups Loss text v = (x : LossKind) × (v ≡ value.Loss x) × IsListedLoss text x
Reads places groups Places text v = (n : ℕ) × (v ≡ value.Number n) × IsNumberIn 0 6 text n
Reads places groups Lo text v = (z : ℤ) × (v ≡ value.Bound z) × IsBound places text (Some z)
Reads places groups Hi text v = (z : ℤ) × (v ≡ value.Bound z) × IsBound places text (Some z)
Reads places groups Seed text v = (n : ℕ) × (v ≡ value.Number n) × IsNumberIn 0 4294967295 text n
Reads places groups Groups text v = (n : ℕ) × (v ≡ value.Number n) × IsNumberIn 1 MOST_GROUPS text n
Reads places groups Rows text v = (n : ℕ) × (v ≡ value.Number n) × IsNumberIn groups 10000 text n
Reads places groups Shape text v = (x : Kind) × (v ≡ value.Shape x) × IsKind text x

-- the word sets the setting's key to a text that is read as its value
pub record IsRead (places groups : ℕ) (word : List ℕ) (setting : Setting) : Type 0 where
  pub text : List ℕ
  pub sets : Sets word setting.key text
  pub reads : Reads places groups setting.key text setting.value

-- each word's setting
abbrev pub AreRead : ℕ → ℕ → List (List ℕ) → List Setting → Type 0
AreRead places groups words settings = AllZip (IsRead places groups) words settings

-- none of the settings has the key
abbrev pub LackKey : List Setting → Key → Type 0
LackKey settings key = AllByRecursion (λ s. s.key ≡ key → ⊥) settings

-- where the first setting of the key stands
abbrev pub IsFirstOf : List Setting → Key → Option ℕ → Type 0
IsFirstOf settings key None = LackKey settings key
IsFirstOf settings key (Some place) = (place < length settings) × ((s : Setting) → slice_get settings place ≡ Some s → s.key ≡ key) × LackKey (take place settings) key

-- the first of the words that sets the key sets it to a text that is read as this value
abbrev pub HasAt : ℕ → ℕ → List (List ℕ) → Key → Value → Type 0
HasAt places groups words key v = (text : List ℕ) × Given words key (Some text) × Reads places groups key text v

-- this is read for the key, or none of the words sets it
abbrev pub IsFoundAs : {A : Type 0} → (A → Value) → ℕ → ℕ → List (List ℕ) → Key → Option A → Type 0
IsFoundAs made places groups words key None = NoneSets words key
IsFoundAs made places groups words key (Some x) = HasAt places groups words key (made x)
