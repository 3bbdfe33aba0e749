-- The text of records that are written.
use Rattle.std.specs.Prelude.{ℕ, List, [], ◌∷◌, ◌++◌}
use Rattle.csv.specs.Writing.{default_writer, row_text}

-- a record's fields joined by commas, in double quotes where one has a comma, a double quote or a line's end in it, with
-- quotes doubled, and a line feed behind
abbrev pub record_text : List (List ℕ) → List ℕ
record_text fields = row_text default_writer fields

-- the texts of records, one after the other
unfoldable pub records_text : List (List (List ℕ)) → List ℕ
records_text [] = []
records_text (fields ∷ rest) = record_text fields ++ records_text rest
