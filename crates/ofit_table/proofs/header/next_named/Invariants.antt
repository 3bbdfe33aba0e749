use Rattle.std.proofs.Common.{◌≤◌, ◌<◌, ℕ}
use Rattle.csv.specs.Records.{fields_of}
use Rattle.ofit_table.specs.Columns.{IsNamedAt}
use Rattle.ofit_table.proofs.header.next_named.Given as goal

abbrev pub invariant-loop-place : goal.invariant-loop-place
invariant-loop-place l = (place : ℕ) → l.start ≤ place → place < l.place → IsNamedAt (fields_of l.header) l.column place → ⊥
