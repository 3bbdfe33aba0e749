-- What was read from a reader and written to a writer, as far as they tell it.
use Rattle.std.specs.Prelude.{ℕ, ◌≢◌, ◌≤◌, List, length, take, Option}
use Rattle.std.specs.IoError.{error_kind}
use Rattle.std.specs.Io.KnownBytes.{Appends}
use Rattle.std.specs.declared.io.ErrorKind.TheVariants.{Interrupted}
use Rattle.ofit_outside.specs.declared.reading.ReadFault.{ReadFault}
use Rattle.ofit_outside.specs.declared.reading.ReadFault.TheVariants.{Reader, Long, Memory}

-- some first bytes of the piece came after what the writer held
abbrev pub AppendsPrefix : Option (List ℕ) → Option (List ℕ) → List ℕ → Type 0
AppendsPrefix before after piece = (n : ℕ) × (n ≤ length piece) × Appends before after (take n piece)

-- an interrupted read is no fault
abbrev pub IsNoInterruption : ReadFault → Type 0
IsNoInterruption (Reader error) = error_kind error ≢ Interrupted
IsNoInterruption Long = Unit {0}
IsNoInterruption Memory = Unit {0}
