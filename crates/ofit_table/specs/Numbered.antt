-- The numbers of a table's rows.
use Rattle.std.specs.Prelude.{◌≡◌, ◌+◌, ℕ, List, slice_get, Some}
use Rattle.ofit_study.specs.Study.{Observation}

-- the rows are numbered from 1 on
abbrev pub AreNumbered : List Observation → Type 0
AreNumbered rows = (k : ℕ) (r : Observation) → slice_get rows k ≡ Some r → r.number ≡ k + 1
