use Rattle.std.proofs.Common.{◌≡◌, ◌++◌}
use Rattle.ofit_levels.specs.LevelText.{level_table}
use Rattle.ofit_levels.proofs.TextLeft.{text_left}
use Rattle.ofit_levels.proofs.text.level_text.Given as goal

abbrev pub invariant-loop-place : goal.invariant-loop-place
invariant-loop-place l = l.writer ++ text_left l.k l.place ≡ level_table l.k
