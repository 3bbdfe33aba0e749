-- The pairs that a pattern relates, and the study with them.
use Rattle.std.specs.Prelude.{◌≡◌, ◌≢◌, [], ℕ, List, Some, All, Result, Ok, Err, length, slice_get, ⊤}
use Rattle.ofit_num.specs.Pairs.{chain_pairs, tree_pairs, umbrella_pairs}
use Rattle.ofit_study.specs.declared.pattern.Pattern.{Pattern}
use Rattle.ofit_study.specs.declared.pattern.Pattern.TheVariants.{NoPairs, Chain, Umbrella, Tree}
use Rattle.ofit_study.specs.Study.{HasPairs, Study, names_of}
use Rattle.ofit_table.specs.declared.fault.OrderFault.{OrderFault}
use Rattle.ofit_table.specs.declared.fault.OrderFault.TheVariants.{NoGroup, Memory}

-- a pattern's pairs by the places of these names; none where its group isn't among them
abbrev pub ArePatternPairs : Pattern → List (List ℕ) → Result (List (ℕ × ℕ)) OrderFault → Type 0
ArePatternPairs NoPairs names (Ok pairs) = pairs ≡ []
ArePatternPairs Chain names (Ok pairs) = pairs ≡ chain_pairs (length names)
ArePatternPairs (Umbrella name) names (Ok pairs) = (peak : ℕ) × (slice_get names peak ≡ Some name) × (pairs ≡ umbrella_pairs peak (length names))
ArePatternPairs (Tree name) names (Ok pairs) = (root : ℕ) × (slice_get names root ≡ Some name) × (pairs ≡ tree_pairs root (length names))
ArePatternPairs (Umbrella name) names (Err NoGroup) = All (λ known. known ≢ name) names
ArePatternPairs (Tree name) names (Err NoGroup) = All (λ known. known ≢ name) names
ArePatternPairs pattern names (Err Memory) = ⊤
ArePatternPairs pattern names (Err fault) = ⊥

-- the study with the pattern's pairs in place of its own, or why there is none
abbrev pub PatternRead : Pattern → Study → Result Study OrderFault → Type 0
PatternRead pattern study (Ok after) = (pairs : List (ℕ × ℕ)) × ArePatternPairs pattern (names_of study) (Ok pairs) × HasPairs study pairs after
PatternRead pattern study (Err fault) = ArePatternPairs pattern (names_of study) (Err fault)
