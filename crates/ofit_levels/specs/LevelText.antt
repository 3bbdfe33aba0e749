-- The records of the level table of k items: for each l from 1 to k the count out of k! orderings.
use Rattle.std.specs.Prelude.{ℕ, List, [], ◌∷◌, ◌++◌, map, codes, decimal}
use Rattle.std.specs.List.{range_with_len}
use Rattle.ofit_records.specs.Written.{records_text}
use Rattle.ofit_levels.specs.Factorial.{factorial}
use Rattle.ofit_levels.specs.Level.{level}

-- the record in front, for so many orderings
abbrev pub header_fields : ℕ → ℕ → List (List ℕ)
header_fields k all = codes "ofit-levels" ∷ codes "1" ∷ decimal k ∷ decimal all ∷ []

-- the record of a level whose count is given, out of so many orderings
abbrev pub level_fields : ℕ → ℕ → ℕ → List (List ℕ)
level_fields l count all = codes "level" ∷ decimal l ∷ decimal count ∷ decimal all ∷ []

abbrev pub end_fields : List (List ℕ)
end_fields = codes "end" ∷ codes "-" ∷ codes "-" ∷ codes "-" ∷ []

-- the records of the levels from 1 to k
abbrev pub level_records : ℕ → List (List (List ℕ))
level_records k = map (λ l. level_fields l (level k l) (factorial k)) (range_with_len 1 k)

unfoldable pub level_table : ℕ → List ℕ
level_table k = records_text (header_fields k (factorial k) ∷ (level_records k ++ end_fields ∷ []))
