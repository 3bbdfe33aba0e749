-- The numbers that a seed gives.
use Rattle.std.specs.Prelude.{ℕ, zero, suc, ◌+◌, ◌*◌, ◌%◌}

-- the generator's next number
abbrev pub next_number : ℕ → ℕ
next_number x = (75 * x + 74) % 65537

-- its number after so many draws
abbrev pub number_after : ℕ → ℕ → ℕ
number_after seed zero = seed % 65536
number_after seed (suc draws) = next_number (number_after seed draws)

-- what a draw, counted from 1, gives below m
abbrev pub drawn : ℕ → ℕ → ℕ → ℕ
drawn seed draw m = number_after seed draw % m
