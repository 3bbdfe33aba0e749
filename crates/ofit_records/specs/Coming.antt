-- What a reader of bytes in memory has still to give.
use Rattle.std.specs.Prelude.{◌≡◌, ◌⊎◌, ◌+◌, ℕ, List, [], Option, Some, None, length, true}
use Rattle.std.specs.Borrow.{Bor}
use Rattle.csv.specs.Reading.{Ready, default_config, has_failed, is_flexible, reader_config, reader_state, reader_trim, records_from, source_of}
use Rattle.csv.specs.declared.parser.State.{State}
use Rattle.csv.specs.declared.reader.Reader.{Reader}
use Rattle.csv.specs.declared.reader.Trim.TheVariants as trim

-- the records of the bytes that are left, if those are known, from a state of the reading
unfoldable pub records_left : State → Option (List ℕ) → List (List (List ℕ))
records_left state None = []
records_left state (Some bytes) = records_from default_config (length bytes + 1) state bytes

-- the records to come, of which there are none behind a failure
abbrev pub coming : Reader (Bor (List ℕ)) → List (List (List ℕ))
coming r = records_left (reader_state r) (source_of (λ bytes. Some bytes.now) r)

-- the reader takes commas, double quotes, no trimming and records of any length, and is at the start of a record, or it has failed
abbrev pub IsAtRecord : Reader (Bor (List ℕ)) → Type 0
IsAtRecord r = (has_failed r ≡ true) ⊎ ((reader_config r ≡ default_config) × (reader_trim r ≡ trim.None) × (is_flexible r ≡ true) × Ready r)
