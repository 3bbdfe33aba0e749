-- Pairs of places below a number.
use Rattle.std.specs.Prelude.{ℕ, ◌<◌, List}
use Rattle.std.specs.List.{All}

-- both ends of each pair are places
abbrev pub AreWithin : List (ℕ × ℕ) → ℕ → Type 0
AreWithin pairs places = All (λ p. (p.0 < places) × (p.1 < places)) pairs
