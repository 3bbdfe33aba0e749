-- A writer that bytes are put into, as its callers see it.
use Rattle.std.specs.Prelude.{ℕ, List, Option}

pub record WriterView : Type 0 where
  -- what the writer got, where it tells
  pub contents : Option (List ℕ)
  pub faults : ℕ
