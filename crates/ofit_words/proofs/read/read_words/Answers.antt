use Rattle.std.proofs.Common.{map, ap, ◌∙◌, inr}
use Rattle.std.specs.Prelude.{string_bytes}
use Rattle.ofit_words.proofs.read.read_words.Goals as goal

pub returns-in-None-command_of-clause-read : goal.returns-in-None-command_of-clause-read
returns-in-None-command_of-clause-read c = inr (
  string_bytes c.in-Some.first.now,
  map string_bytes c.in-Some.rest.now,
  ap (map string_bytes) c.in-Some.ensures.cases.0,
  λ command e. c.in-None-command_of.ensures.no command (c.as_str.ensures.value ∙ e),
)
