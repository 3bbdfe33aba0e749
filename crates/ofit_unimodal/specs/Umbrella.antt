-- An umbrella as a tree.
use Rattle.std.specs.Prelude.{◌-◌, ℕ, suc, nat_lt, nat_eq, List, map, Option, Some, None, if◌then◌else◌}
use Rattle.std.specs.List.{range_with_len}

-- the next place towards the peak
abbrev pub umbrella_parent : ℕ → ℕ → Option ℕ
umbrella_parent peak i = if nat_lt i peak then Some (suc i) else (if nat_eq i peak then None else Some (i - 1))

abbrev pub umbrella_parents : ℕ → ℕ → List (Option ℕ)
umbrella_parents peak n = map (umbrella_parent peak) (range_with_len 0 n)
