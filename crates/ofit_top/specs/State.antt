-- What a run can see and change: the folder, the output and the tally.
use Rattle.std.specs.Prelude.{ℕ, List, Option}
use Rattle.ofit_outside.specs.Folder.{Held}
use Rattle.ofit_num.specs.Tally.{Counts}

pub record State : Type 0 where
  -- what the folder holds, where it tells that, and how often it has failed
  pub held : Option Held
  pub read_faults : ℕ
  -- what was written to the output, where that tells it, and how often it has failed
  pub written : Option (List ℕ)
  pub write_faults : ℕ
  -- what the tally has counted
  pub counts : Counts

abbrev pub state : Option Held → ℕ → Option (List ℕ) → ℕ → Counts → State
state held read_faults written write_faults counts =
    record { held = held; read_faults = read_faults; written = written; write_faults = write_faults; counts = counts }
