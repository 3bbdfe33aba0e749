-- What `session` gives: the text of a script.
use Rattle.std.specs.Prelude.{◌≡◌, ℕ, List}
use Rattle.ofit_study.specs.Study.{Study}
use Rattle.ofit_script.specs.declared.line.Line.{Line}
use Rattle.ofit_script.specs.ScriptGives.{ScriptPrints}
use Rattle.ofit_answer.specs.declared.answer.Answer.{Answer}
use Rattle.ofit_answer.specs.declared.answer.Answer.TheVariants.{Done}

-- A text that the lines may print, one after another, from the study on.
abbrev pub SessionGives : Study → List Line → Answer → List ℕ → Type 0
SessionGives s lines answer text = (answer ≡ Done) × ScriptPrints s lines text
