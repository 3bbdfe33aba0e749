-- A count of faults, one by one.
use Rattle.std.specs.Prelude.{ℕ, ◌+◌, ◌-◌, ◌^◌, min}

-- the count after one more
abbrev pub risen : ℕ → ℕ
risen count = min (count + 1) (2 ^ 64 - 1)
