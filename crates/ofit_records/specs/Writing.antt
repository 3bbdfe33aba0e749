-- A writer of records into memory, as it goes on.
use Rattle.std.specs.Prelude.{◌≡◌, ℕ, List, [], ◌++◌, Bool, true, false}
use Rattle.std.specs.declared.vec.Vec.{Vec}
use Rattle.csv.specs.declared.writer.Writer.{Writer}
use Rattle.csv.specs.declared.writer.WriterBuilder.{WriterBuilder}
use Rattle.csv.specs.Writing.{default_writer, fields_written, has_written, with_flexible, writer_pending, writer_setup, writer_under}

-- the writer's settings: those of record_text, and records of any length
abbrev pub writer_settings : WriterBuilder
writer_settings = with_flexible default_writer true

-- what a writer into memory was given so far
abbrev pub text_given : {A : Type 0} → Writer (Vec ℕ A) → List ℕ
text_given w = (writer_under w).items ++ writer_pending w

-- the writer is inside no record
abbrev pub IsBetweenRecords : {A : Type 0} → Writer (Vec ℕ A) → Type 0
IsBetweenRecords w = (writer_setup w ≡ writer_settings) × (fields_written w ≡ 0) × (has_written w ≡ false)

-- what a writer was given that may have failed: nothing then
abbrev pub text_unless : {A : Type 0} → Bool → Writer (Vec ℕ A) → List ℕ
text_unless true w = []
text_unless false w = text_given w
