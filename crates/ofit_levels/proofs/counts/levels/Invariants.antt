use Rattle.ofit_levels.proofs.Rows.{HasLevels}
use Rattle.ofit_levels.proofs.counts.levels.Given as goal

abbrev pub invariant-loop-size : goal.invariant-loop-size
invariant-loop-size l = HasLevels l.size l.counts 34
