-- The pairs whose two places have one value, along which flows may stand.
use Rattle.std.specs.Prelude.{ℕ, Bool, List, filter, slice_get, unwrap_or, pos, ◌*ℤ◌}
use Rattle.std.specs.Ordering.{int_eq}
use Rattle.ofit_num.specs.Fraction.{Fraction}

-- the value at a place, 0 where there is none
abbrev pub value_at : List Fraction → ℕ → Fraction
value_at values g = unwrap_or (slice_get values g) (record { num = pos 0; den = 1 })

-- both ends of the pair have one value
abbrev pub is_tight : List Fraction → ℕ × ℕ → Bool
is_tight values e = int_eq ((value_at values e.0).num *ℤ pos (value_at values e.1).den) ((value_at values e.1).num *ℤ pos (value_at values e.0).den)

-- the pairs of equal values, in their order
abbrev pub tight_among : List Fraction → List (ℕ × ℕ) → List (ℕ × ℕ)
tight_among values pairs = filter (is_tight values) pairs
