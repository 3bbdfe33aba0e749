-- Sets of places: level sets, upper sets and lower sets, within a piece of the order.
use Rattle.std.specs.Prelude.{◌≡◌, ℕ, ◌<◌, Bool, true, false, cond, ◌||◌, All, ℤ, pos, ◌+ℤ◌, ◌≤ℤ◌, zero, suc}
use Rattle.ofit_num.specs.Problem.{Problem}
use Rattle.ofit_num.specs.Trial.{Trial}

-- the sum of c over the places below n that the set A holds
abbrev pub set_sum : (ℕ → Bool) → (ℕ → ℤ) → ℕ → ℤ
set_sum a c zero = pos 0
set_sum a c (suc n) = set_sum a c n +ℤ cond (a n) (c n) (pos 0)

-- with a place, the set holds each higher place of equal value
abbrev pub IsClosedUp : Problem → Trial → (ℕ → Bool) → Type 0
IsClosedUp s t a = All (λ e. t.value e.0 ≡ t.value e.1 → a e.0 ≡ true → a e.1 ≡ true) s.pairs

-- with a place, the set holds each lower place of equal value
abbrev pub IsClosedDown : Problem → Trial → (ℕ → Bool) → Type 0
IsClosedDown s t a = All (λ e. t.value e.0 ≡ t.value e.1 → a e.1 ≡ true → a e.0 ≡ true) s.pairs

-- Sets of places inside a piece, which is a set of places too.
pub record IsWithin (s : Problem) (piece a : ℕ → Bool) : Type 0 where
  pub each : (g : ℕ) → g < s.count → a g ≡ true → piece g ≡ true

-- with a place of the piece, the set holds each higher place of it that has an equal value
abbrev pub IsClosedUpIn : Problem → Trial → (ℕ → Bool) → (ℕ → Bool) → Type 0
IsClosedUpIn s t piece a = All (λ e. piece e.0 ≡ true → piece e.1 ≡ true → t.value e.0 ≡ t.value e.1 → a e.0 ≡ true → a e.1 ≡ true) s.pairs

abbrev pub IsClosedDownIn : Problem → Trial → (ℕ → Bool) → (ℕ → Bool) → Type 0
IsClosedDownIn s t piece a = All (λ e. piece e.0 ≡ true → piece e.1 ≡ true → t.value e.0 ≡ t.value e.1 → a e.1 ≡ true → a e.0 ≡ true) s.pairs

-- with a place of the piece, the set holds each higher place of it
abbrev pub IsUpperIn : Problem → (ℕ → Bool) → (ℕ → Bool) → Type 0
IsUpperIn s piece a = All (λ e. piece e.0 ≡ true → piece e.1 ≡ true → a e.0 ≡ true → a e.1 ≡ true) s.pairs

abbrev pub IsLowerIn : Problem → (ℕ → Bool) → (ℕ → Bool) → Type 0
IsLowerIn s piece a = All (λ e. piece e.0 ≡ true → piece e.1 ≡ true → a e.1 ≡ true → a e.0 ≡ true) s.pairs

-- the two parts of a piece
pub record IsSplit (s : Problem) (piece upper rest : ℕ → Bool) : Type 0 where
  pub closed : IsUpperIn s piece upper
  pub parts : (g : ℕ) → g < s.count → piece g ≡ (upper g || rest g)
  pub apart : (g : ℕ) → g < s.count → upper g ≡ true → rest g ≡ false

-- the upper sets of a piece by their sums of c: this one has the greatest
pub record IsGreatestUpper (s : Problem) (piece : ℕ → Bool) (c : ℕ → ℤ) (chosen : ℕ → Bool) : Type 0 where
  pub within : IsWithin s piece chosen
  pub closed : IsUpperIn s piece chosen
  pub greatest : (a : ℕ → Bool) → IsWithin s piece a → IsUpperIn s piece a → set_sum a c s.count ≤ℤ set_sum chosen c s.count

-- and each other one with that sum holds it
pub record IsSmallest (s : Problem) (piece : ℕ → Bool) (c : ℕ → ℤ) (chosen : ℕ → Bool) : Type 0 where
  pub smallest : (a : ℕ → Bool) → IsWithin s piece a → IsUpperIn s piece a → set_sum a c s.count ≡ set_sum chosen c s.count → (g : ℕ) → g < s.count → chosen g ≡ true → a g ≡ true
