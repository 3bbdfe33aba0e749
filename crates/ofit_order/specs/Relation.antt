-- Places with pairs between them, as an order is seen.
use Rattle.std.specs.Prelude.{◌≡◌, ℕ, ◌<◌, ◌⊎◌, List}
use Rattle.std.specs.List.{AllPairs}

-- the places below a number, and the pairs of a low and a high place
pub record Relation : Type 0 where
  pub places : ℕ
  pub pairs : List (ℕ × ℕ)

-- by low place, and then by high place
abbrev pub ComesBefore : ℕ × ℕ → ℕ × ℕ → Type 0
ComesBefore p q = (p.0 < q.0) ⊎ ((p.0 ≡ q.0) × (p.1 < q.1))

-- each pair comes before all later ones, so that no two are the same
abbrev pub AreInOrder : List (ℕ × ℕ) → Type 0
AreInOrder pairs = AllPairs ComesBefore pairs
