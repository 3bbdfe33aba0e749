-- What a sink tells of the bytes that were put into it.
use Rattle.std.specs.Prelude.{◌≡◌, ℕ, ◌≤◌, List, ◌++◌, length, take, Option, Some, None}

-- what is told once these bytes came after what was there; what isn't told stays untold
abbrev pub with_more : Option (List ℕ) → List ℕ → Option (List ℕ)
with_more None bytes = None
with_more (Some written) bytes = Some (written ++ bytes)

-- some first bytes of the piece came after what was there
abbrev pub GainsPrefix : Option (List ℕ) → Option (List ℕ) → List ℕ → Type 0
GainsPrefix before after piece = (n : ℕ) × (n ≤ length piece) × (after ≡ with_more before (take n piece))
