use Rattle.std.proofs.Common.{ℕ, ◌<◌}
use Rattle.ofit_sheet.specs.PeakVerdict.{KeepsShape}
use Rattle.ofit_check.proofs.peak.shape.first_bent.Given as goal

abbrev pub invariant-loop-place : goal.invariant-loop-place
invariant-loop-place l = (k : ℕ) → k < l.place → KeepsShape l.peaked k
