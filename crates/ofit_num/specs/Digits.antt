-- Where a run of bytes ends, and digits that spell a number.
use Rattle.std.specs.Prelude.{◌≡◌, ℕ, List, [], ◌∷◌, length, ⊤}
use Rattle.std.specs.List.{AllByRecursion}
use Rattle.ofit_num.specs.NumberText.{IsDigit, spelled_after}

-- the text doesn't begin with such a byte
abbrev pub Stops : (ℕ → Type 0) → List ℕ → Type 0
Stops P [] = ⊤
Stops P (b ∷ bs) = P b → ⊥

-- digits, as many as count, that spell the number
pub record ArePadded (digits : List ℕ) (count number : ℕ) : Type 0 where
  pub are_digits : AllByRecursion IsDigit digits
  pub as_many : length digits ≡ count
  pub spells : spelled_after 0 digits ≡ number
