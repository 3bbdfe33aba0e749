-- Pools of a block and of its child block, which can be joined and have a row, and their groups together.
use Rattle.std.specs.Prelude.{◌≡◌, ℕ, ◌⊎◌, List, ◌++◌, length, Contains, slice_index}

-- the list has the places of the one, and then those of the other
abbrev pub AreTogether : List ℕ → List ℕ → List ℕ → Type 0
AreTogether xs ys zs = (zs ≡ xs ++ ys) ⊎ (zs ≡ ys ++ xs)

-- the groups at these places have the number now, and the others have theirs
pub record IsRelabelled (old new places : List ℕ) (number : ℕ) : Type 0 where
  pub count : length new ≡ length old
  pub given : (g : ℕ) → Contains places g → slice_index new g ≡ number
  pub kept : (g : ℕ) → (Contains places g → ⊥) → slice_index new g ≡ slice_index old g

-- the places of one of two blocks have the number of the other block now, which is that of both
abbrev pub IsRenumbered : List ℕ → List ℕ → List ℕ → List ℕ → ℕ → ℕ → ℕ → Type 0
IsRenumbered old new upper child above below number = ((number ≡ above) × IsRelabelled old new child above) ⊎ ((number ≡ below) × IsRelabelled old new upper below)
