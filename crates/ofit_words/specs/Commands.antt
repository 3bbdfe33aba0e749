-- The commands, their names' count and their keys.
use Rattle.std.specs.Prelude.{◌≡◌, ℕ, Bool, true, false, List, ◌∷◌, ◌++◌, codes}
use Rattle.ofit_words.specs.declared.command.Command.{Command}
use Rattle.ofit_words.specs.declared.command.Command.TheVariants.{Fit, Report, Verify, Session, Unimodal, VerifyUnimodal, Levels, Sample}
use Rattle.ofit_words.specs.declared.key.Key.{Key}
use Rattle.ofit_words.specs.declared.key.Key.TheVariants.{Order, Loss, Places, Lo, Hi, Seed, Groups, Rows, Shape}

abbrev pub command_name : Command → List ℕ
command_name Fit = codes "fit"
command_name Report = codes "report"
command_name Verify = codes "verify"
command_name Session = codes "session"
command_name Unimodal = codes "unimodal"
command_name VerifyUnimodal = codes "verify-unimodal"
command_name Levels = codes "levels"
command_name Sample = codes "sample"

-- how many names follow the command: a table, a sheet or script, a level
abbrev pub name_count : Command → ℕ
name_count Fit = 1
name_count Report = 1
name_count Verify = 2
name_count Session = 2
name_count Unimodal = 1
name_count VerifyUnimodal = 2
name_count Levels = 1
name_count Sample = 0

abbrev pub key_name : Key → List ℕ
key_name Order = codes "order"
key_name Loss = codes "loss"
key_name Places = codes "places"
key_name Lo = codes "lo"
key_name Hi = codes "hi"
key_name Seed = codes "seed"
key_name Groups = codes "groups"
key_name Rows = codes "rows"
key_name Shape = codes "shape"

abbrev pub is_fit_key : Key → Bool
is_fit_key Order = true
is_fit_key Loss = true
is_fit_key Places = true
is_fit_key Lo = true
is_fit_key Hi = true
is_fit_key key = false

abbrev pub is_peak_key : Key → Bool
is_peak_key Places = true
is_peak_key key = false

abbrev pub is_sample_key : Key → Bool
is_sample_key Loss = true
is_sample_key Seed = true
is_sample_key Groups = true
is_sample_key Rows = true
is_sample_key Shape = true
is_sample_key key = false

-- whether the command has the key
abbrev pub has_key : Command → Key → Bool
has_key Fit key = is_fit_key key
has_key Report key = is_fit_key key
has_key Verify key = is_fit_key key
has_key Session key = is_fit_key key
has_key Unimodal key = is_peak_key key
has_key VerifyUnimodal key = is_peak_key key
has_key Levels key = false
has_key Sample key = is_sample_key key

-- The word is the key's name, `=` and the value. No key's name has a `=`, so the first one cuts the word.
abbrev pub Sets : List ℕ → Key → List ℕ → Type 0
Sets word key value = word ≡ key_name key ++ 61 ∷ value
