use Rattle.std.proofs.Common.{◌≡◌, take}
use Rattle.ofit_report.specs.Cost.{rows_among}
use Rattle.ofit_report.proofs.rows.rows_of.Given as goal

abbrev pub invariant-loop-place : goal.invariant-loop-place
invariant-loop-place l = l.rows.items ≡ rows_among l.study (take l.place-index l.members)
