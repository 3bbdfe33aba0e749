use Rattle.std.proofs.Common.{ℕ, List, take, drop, map, ◌+◌, subst}
use Rattle.std.specs.Prelude.{string_bytes}
use Rattle.ofit_words.specs.Commands.{Sets}
use Rattle.ofit_words.proofs.Lists.{map_split}
use Rattle.ofit_words.proofs.given.given.Goals as goal

pub returns-in-Some : goal.returns-in-Some
returns-in-Some c =
    let P : List ℕ → Type 0 = λ t. Sets t c.args.key c.in-Some.value.now in (
      map string_bytes (take c.loop-word.word-index c.args.settings.now),
      string_bytes c.word-item.result,
      map string_bytes (drop (c.loop-word.word-index + 1) c.args.settings.now),
      map_split string_bytes c.args.settings.now c.loop-word.word-index c.word-item.result c.loop-word-test.true c.word-item.is,
      subst P c.as_str.ensures.value c.in-Some.ensures,
      c.loop-word.invariant,
    )
