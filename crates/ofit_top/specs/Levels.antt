-- What `levels` gives: the level table.
use Rattle.std.specs.Prelude.{◌≡◌, ℕ, List}
use Rattle.ofit_levels.specs.LevelText.{level_table}
use Rattle.ofit_answer.specs.declared.answer.Answer.{Answer}
use Rattle.ofit_answer.specs.declared.answer.Answer.TheVariants.{Done}

abbrev pub LevelsGive : ℕ → Answer → List ℕ → Type 0
LevelsGive k answer text = (answer ≡ Done) × (text ≡ level_table k)
