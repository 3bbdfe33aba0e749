-- The pairs of the patterns, of so many places in list order.
use Rattle.std.specs.Prelude.{◌+◌, ◌-◌, ◌++◌, ℕ, List, map}
use Rattle.std.specs.List.{range_with_len}

-- each place before the last is low to the next one
abbrev pub rising_to : ℕ → List (ℕ × ℕ)
rising_to last = map (λ i. (i, i + 1)) (range_with_len 0 last)

-- each place above the first, up to the last, is low to the one before it
abbrev pub falling : ℕ → ℕ → List (ℕ × ℕ)
falling first last = map (λ i. (i + 1, i)) (range_with_len first (last - first))

-- the root is low to each place from the first on and below the end
abbrev pub fanned : ℕ → ℕ → ℕ → List (ℕ × ℕ)
fanned root first end = map (λ i. (root, i)) (range_with_len first (end - first))

-- each is at most the next
abbrev pub chain_pairs : ℕ → List (ℕ × ℕ)
chain_pairs count = rising_to (count - 1)

-- they rise up to the peak and fall from it
abbrev pub umbrella_pairs : ℕ → ℕ → List (ℕ × ℕ)
umbrella_pairs peak count = rising_to peak ++ falling peak (count - 1)

-- the root is at most each other one
abbrev pub tree_pairs : ℕ → ℕ → List (ℕ × ℕ)
tree_pairs root count = fanned root 0 root ++ fanned root (root + 1) count
