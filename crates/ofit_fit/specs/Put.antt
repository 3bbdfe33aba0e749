-- Values put at places of a list.
use Rattle.std.specs.Prelude.{◌≡◌, ℕ, ◌<◌, List, length, slice_index, slice_get}
use Rattle.std.specs.List.{Contains}
use Rattle.ofit_num.specs.Fraction.{Fraction}

-- each value stands at its place, and all others as before
pub record ArePut (places : List ℕ) (values before after : List Fraction) : Type 0 where
  pub count : length after ≡ length before
  pub put : (i : ℕ) → i < length places → slice_get after (slice_index places i) ≡ slice_get values i
  pub others : (g : ℕ) → (Contains places g → ⊥) → slice_get after g ≡ slice_get before g
