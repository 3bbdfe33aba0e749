-- The canonical texts of whole and signed numbers, by the cases of their grammar.
use Rattle.std.specs.Prelude.{◌≡◌, ℕ, ◌+◌, ◌*◌, ◌-◌, ◌≤◌, ◌⊎◌, List, [], ◌∷◌, ℤ, pos, negsuc, suc}
use Rattle.std.specs.List.{AllByRecursion}

-- a digit, `0` to `9`
abbrev pub IsDigit : ℕ → Type 0
IsDigit b = (48 ≤ b) × (b ≤ 57)

-- the number that digits spell after those of n
abbrev pub spelled_after : ℕ → List ℕ → ℕ
spelled_after n [] = n
spelled_after n (b ∷ bs) = spelled_after (n * 10 + (b - 48)) bs

-- the digit `0` alone
pub record IsZeroText (text : List ℕ) (n : ℕ) : Type 0 where
  pub is_zero : text ≡ 48 ∷ []
  pub number : n ≡ 0

-- a digit 1 to 9 followed by digits
pub record IsPositiveText (text : List ℕ) (n : ℕ) : Type 0 where
  pub first : ℕ
  pub rest : List ℕ
  pub spells : text ≡ first ∷ rest
  pub above_zero : 49 ≤ first
  pub is_digit : first ≤ 57
  pub digits : AllByRecursion IsDigit rest
  pub number : n ≡ spelled_after 0 text

-- a whole number
abbrev pub IsWhole : List ℕ → ℕ → Type 0
IsWhole text n = IsZeroText text n ⊎ IsPositiveText text n

-- a signed number: a whole number, or `-` followed by one that isn't 0
abbrev pub IsSigned : List ℕ → ℤ → Type 0
IsSigned text (pos n) = IsWhole text n
IsSigned text (negsuc n) = (digits : List ℕ) × (text ≡ 45 ∷ digits) × IsWhole digits (suc n)
