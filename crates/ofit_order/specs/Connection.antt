-- Places that pairs connect.
use Rattle.std.specs.Prelude.{◌≡◌, ℕ, ◌⊎◌, List, [], ◌∷◌}
use Rattle.std.specs.List.{Contains}

-- a pair leads from the one place up to the other
abbrev pub LeadsUp : List (ℕ × ℕ) → ℕ → ℕ → Type 0
LeadsUp pairs a b = Contains pairs (a, b)

-- a pair leads from the one place to the other, up or down
abbrev pub Joins : List (ℕ × ℕ) → ℕ → ℕ → Type 0
Joins pairs a b = LeadsUp pairs a b ⊎ LeadsUp pairs b a

-- from a each step goes to the next place of the walk, and the last stands at b
abbrev pub IsWalkBy : (ℕ → ℕ → Type 0) → ℕ → List ℕ → ℕ → Type 0
IsWalkBy Step a [] b = a ≡ b
IsWalkBy Step a (c ∷ walk) b = Step a c × IsWalkBy Step c walk b

-- some walk leads from the one place to the other
pub record IsReached (Step : ℕ → ℕ → Type 0) (a b : ℕ) : Type 0 where
  pub walk : List ℕ
  pub steps : IsWalkBy Step a walk b

-- a walk of pairs, each taken up or down, leads from the one place to the other
abbrev pub AreConnected : List (ℕ × ℕ) → ℕ → ℕ → Type 0
AreConnected pairs a b = IsReached (Joins pairs) a b
