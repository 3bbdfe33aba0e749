use Rattle.std.proofs.Common.{ℕ, ◌<◌}
use Rattle.ofit_check.specs.Check.{IsAtPlace}
use Rattle.ofit_check.proofs.values.first_missing.Given as goal

abbrev pub invariant-loop-place : goal.invariant-loop-place
invariant-loop-place l = (k : ℕ) → k < l.place → IsAtPlace l.sheet k
