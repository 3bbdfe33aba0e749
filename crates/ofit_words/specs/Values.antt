-- The values that a setting may have.
use Rattle.std.specs.Prelude.{◌≡◌, ℕ, ◌<◌, ◌++◌, List, length, codes, ℤ, Option, Some, None}
use Rattle.ofit_num.specs.declared.limits.TheConstants.{MOST_GROUPS}
use Rattle.ofit_study.specs.FieldRead.{IsValue}
use Rattle.ofit_study.specs.Name.{IsName}
use Rattle.ofit_study.specs.declared.loss.LossKind.{LossKind}
use Rattle.ofit_study.specs.declared.pattern.Pattern.TheVariants.{NoPairs, Chain, Umbrella, Tree}
use Rattle.ofit_words.specs.declared.job.OrderChoice.{OrderChoice}
use Rattle.ofit_words.specs.declared.job.OrderChoice.TheVariants.{Shaped, File}
use Rattle.ofit_words.specs.declared.job.Kind.{Kind}
use Rattle.ofit_words.specs.declared.job.Kind.TheVariants as kind
use Rattle.ofit_words.specs.declared.key.Key.{Key}
use Rattle.ofit_words.specs.declared.key.Key.TheVariants.{Order, Loss, Places, Lo, Hi, Seed, Groups, Rows, Shape}
pub use Rattle.ofit_study.specs.Loss.{IsListedLoss}
pub use Rattle.ofit_study.specs.FieldRead.{IsNumberIn}

abbrev pub IsKind : List ℕ → Kind → Type 0
IsKind value kind.Chain = value ≡ codes "chain"
IsKind value kind.Umbrella = value ≡ codes "umbrella"
IsKind value kind.Tree = value ≡ codes "tree"
IsKind value kind.General = value ≡ codes "general"

-- a bound is read as a value is
abbrev pub IsBound : ℕ → List ℕ → Option ℤ → Type 0
IsBound places value None = ⊥
IsBound places value (Some z) = IsValue places value z

-- a pattern, with the name of its group, or an order's file
abbrev pub IsOrder : List ℕ → OrderChoice → Type 0
IsOrder value (Shaped NoPairs) = value ≡ codes "none"
IsOrder value (Shaped Chain) = value ≡ codes "chain"
IsOrder value (Shaped (Umbrella name)) = (value ≡ codes "umbrella:" ++ name) × IsName name
IsOrder value (Shaped (Tree name)) = (value ≡ codes "tree:" ++ name) × IsName name
IsOrder value (File file) = (value ≡ codes "file:" ++ file) × (0 < length file)

-- the key may have the value where these places and this count of groups are in force
abbrev pub IsGood : ℕ → ℕ → Key → List ℕ → Type 0
IsGood places groups Order value = (x : OrderChoice) × IsOrder value x
IsGood places groups Loss value = (x : LossKind) × IsListedLoss value x
IsGood places groups Places value = (n : ℕ) × IsNumberIn 0 6 value n
IsGood places groups Lo value = (x : Option ℤ) × IsBound places value x
IsGood places groups Hi value = (x : Option ℤ) × IsBound places value x
IsGood places groups Seed value = (n : ℕ) × IsNumberIn 0 4294967295 value n
IsGood places groups Groups value = (n : ℕ) × IsNumberIn 1 MOST_GROUPS value n
IsGood places groups Rows value = (n : ℕ) × IsNumberIn groups 10000 value n
IsGood places groups Shape value = (x : Kind) × IsKind value x
