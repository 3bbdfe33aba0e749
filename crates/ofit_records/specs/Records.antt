-- The records of a text of comma-separated values.
use Rattle.std.specs.Prelude.{ℕ, List, [], ◌∷◌, if◌then◌else◌}
use Rattle.csv.specs.Reading.{default_config, is_bom, records}

-- the bytes without the byte order marks at their front, as often as one stands there
unfoldable pub without_marks : List ℕ → List ℕ
without_marks [] = []
without_marks (a ∷ []) = a ∷ []
without_marks (a ∷ b ∷ []) = a ∷ b ∷ []
without_marks (a ∷ b ∷ c ∷ rest) = if is_bom a b c then without_marks rest else a ∷ b ∷ c ∷ rest

-- each record of the bytes as the list of its fields: commas between fields, double quotes round them, spaces kept,
-- records of any length, and none of them set apart as a header
abbrev pub records_of : List ℕ → List (List (List ℕ))
records_of bytes = records default_config (without_marks bytes)
