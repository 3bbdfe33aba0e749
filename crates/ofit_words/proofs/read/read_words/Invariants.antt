use Rattle.std.proofs.Common.{drop, map}
use Rattle.std.specs.Prelude.{string_bytes}
use Rattle.ofit_words.specs.Commands.{name_count}
use Rattle.ofit_words.proofs.read.read_words.Given as goal

abbrev pub ghost-read_call : goal.ghost-read_call
ghost-read_call a = drop (name_count a.command) (map string_bytes a.words.now)
