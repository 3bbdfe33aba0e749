-- The pairs of a pattern are within the study's limits.
use Rattle.std.proofs.Common.{◌≡◌, ◌≤◌, ◌<◌, ◌+◌, ◌-◌, ℕ, zero, suc, List, Ok, length, subst, sym, ap, arith}
use Rattle.std.specs.List.{All}
use Rattle.std.proofs.lemmas.List.{length-append}
use Rattle.std.proofs.lemmas.List.Elements.{All-append, All-nil}
use Rattle.std.proofs.lemmas.List.FromFn.{length-map-range_with_len}
use Rattle.ofit_study.specs.declared.pattern.Pattern.{Pattern}
use Rattle.ofit_study.specs.declared.pattern.Pattern.TheVariants.{NoPairs, Chain, Umbrella, Tree}
use Rattle.ofit_num.specs.Pairs.{chain_pairs, falling, fanned, rising_to, tree_pairs, umbrella_pairs}
use Rattle.ofit_table.specs.PatternRead.{ArePatternPairs}
use Rattle.ofit_table.proofs.Places.{within}
use Rattle.ofit_num.proofs.Ranges.{all-range}

abbrev pub IsInside : ℕ → ℕ × ℕ → Type 0
IsInside n e = (e.0 < n) × (e.1 < n)

rising-inside : (n last : ℕ) → last + 1 ≤ n → All (IsInside n) (rising_to last)
rising-inside n last h = all-range (IsInside n) (λ (i : ℕ). (i, i + 1)) 0 last (λ i low high. (omega arith, omega arith))

falling-inside : (n first last : ℕ) → first ≤ last → last + 1 ≤ n → All (IsInside n) (falling first last)
falling-inside n first last h k = all-range (IsInside n) (λ (i : ℕ). (i + 1, i)) first (last - first) (λ i low high. (omega arith, omega arith))

fanned-inside : (n root first end : ℕ) → root < n → first ≤ end → end ≤ n → All (IsInside n) (fanned root first end)
fanned-inside n root first end r h k = all-range (IsInside n) (λ (i : ℕ). (root, i)) first (end - first) (λ i low high. (r, omega arith))

chain-inside : (n : ℕ) → All (IsInside n) (chain_pairs n)
chain-inside zero = All-nil (IsInside 0)
chain-inside (suc n) = rising-inside (suc n) (suc n - 1) (omega arith)

umbrella-inside : (n peak : ℕ) → peak < n → All (IsInside n) (umbrella_pairs peak n)
umbrella-inside n peak h = All-append (IsInside n) (rising_to peak) (falling peak (n - 1)) (rising-inside n peak (omega arith)) (falling-inside n peak (n - 1) (omega arith) (omega arith))

tree-inside : (n root : ℕ) → root < n → All (IsInside n) (tree_pairs root n)
tree-inside n root h = All-append (IsInside n) (fanned root 0 root) (fanned root (root + 1) n) (fanned-inside n root 0 root h (omega arith) (omega arith)) (fanned-inside n root (root + 1) n h (omega arith) (omega arith))

pub pattern-inside : (pattern : Pattern) (names : List (List ℕ)) (pairs : List (ℕ × ℕ)) → ArePatternPairs pattern names (Ok pairs) → All (IsInside (length names)) pairs
pattern-inside NoPairs names pairs h = subst (All (IsInside (length names))) (sym h) (All-nil (IsInside (length names)))
pattern-inside Chain names pairs h = subst (All (IsInside (length names))) (sym h) (chain-inside (length names))
pattern-inside (Umbrella name) names pairs h = subst (All (IsInside (length names))) (sym h.2) (umbrella-inside (length names) h.0 (within names h.0 name h.1))
pattern-inside (Tree name) names pairs h = subst (All (IsInside (length names))) (sym h.2) (tree-inside (length names) h.0 (within names h.0 name h.1))

rising-length : (last : ℕ) → length (rising_to last) ≡ last
rising-length last = length-map-range_with_len (λ (i : ℕ). (i, i + 1)) 0 last

falling-length : (first last : ℕ) → length (falling first last) ≡ last - first
falling-length first last = length-map-range_with_len (λ (i : ℕ). (i + 1, i)) first (last - first)

fanned-length : (root first end : ℕ) → length (fanned root first end) ≡ end - first
fanned-length root first end = length-map-range_with_len (λ (i : ℕ). (root, i)) first (end - first)

pub pattern-length : (pattern : Pattern) (names : List (List ℕ)) (pairs : List (ℕ × ℕ)) → ArePatternPairs pattern names (Ok pairs) → length pairs ≤ length names
pattern-length NoPairs names pairs h = omega (arith, ap length h)
pattern-length Chain names pairs h = omega (arith, ap length h, rising-length (length names - 1))
pattern-length (Umbrella name) names pairs h =
    let room = within names h.0 name h.1 in
    omega (arith, ap length h.2, length-append (rising_to h.0) (falling h.0 (length names - 1)), rising-length h.0, falling-length h.0 (length names - 1))
pattern-length (Tree name) names pairs h =
    let room = within names h.0 name h.1 in
    omega (arith, ap length h.2, length-append (fanned h.0 0 h.0) (fanned h.0 (h.0 + 1) (length names)), fanned-length h.0 0 h.0, fanned-length h.0 (h.0 + 1) (length names))
