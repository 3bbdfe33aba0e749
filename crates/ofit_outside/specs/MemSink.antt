-- A sink in memory as its callers see it.
use Rattle.std.specs.Prelude.{ℕ, ◌+◌, ◌<◌, List, length}

pub record SinkView : Type 0 where
  pub written : List ℕ
  -- the greatest number of bytes that it takes
  pub room : ℕ
  -- the numbers of the puts that fail
  pub fails : List ℕ
  -- how many puts there were; it stays at 2^64 - 1
  pub puts : ℕ
  pub faults : ℕ

-- with this piece there would be more than the sink takes
abbrev pub PassesRoom : SinkView → List ℕ → Type 0
PassesRoom sink piece = sink.room < length sink.written + length piece
