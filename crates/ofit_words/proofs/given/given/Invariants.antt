use Rattle.std.proofs.Common.{take, map}
use Rattle.std.specs.Prelude.{string_bytes}
use Rattle.ofit_words.specs.Given.{NoneSets}
use Rattle.ofit_words.proofs.given.given.Given as goal

abbrev pub invariant-loop-word : goal.invariant-loop-word
invariant-loop-word l = NoneSets (map string_bytes (take l.word-index l.settings)) l.key
