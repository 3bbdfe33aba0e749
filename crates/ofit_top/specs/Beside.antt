-- A folder with one file more.
use Rattle.std.specs.Prelude.{◌≡◌, ◌⊎◌, ℕ, List, Some}
use Rattle.std.specs.FinMap.{get}
use Rattle.ofit_outside.specs.Folder.{Held}
use Rattle.ofit_words.specs.declared.job.Inputs.{Inputs}
use Rattle.ofit_words.specs.declared.job.OrderChoice.TheVariants.{File}

-- the text stands under the name, and every other name has what it had
pub record HoldsBesides (before : Held) (name text : List ℕ) (after : Held) : Type 0 where
  pub there : get after name ≡ Some text
  pub others : (other : List ℕ) → (other ≡ name → ⊥) → get after other ≡ get before other

-- the file of this name is the table or the order of the inputs
abbrev pub IsInput : Inputs → List ℕ → Type 0
IsInput inputs name = (inputs.table ≡ name) ⊎ (inputs.order ≡ File name)
