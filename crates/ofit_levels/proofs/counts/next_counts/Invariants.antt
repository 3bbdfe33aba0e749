use Rattle.std.proofs.Common.{◌≡◌, ◌+◌, length}
use Rattle.ofit_levels.proofs.Rows.{HasLevels}
use Rattle.ofit_levels.proofs.counts.next_counts.Given as goal

abbrev pub invariant-loop-place : goal.invariant-loop-place
invariant-loop-place l = (length l.next ≡ 34) × HasLevels (l.size + 1) l.next l.place
