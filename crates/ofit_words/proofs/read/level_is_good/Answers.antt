use Rattle.std.proofs.Common.{map, ap, ◌∙◌}
use Rattle.std.specs.Prelude.{string_bytes}
use Rattle.ofit_words.specs.Commands.{name_count}
use Rattle.ofit_words.proofs.Lists.{one_name}
use Rattle.ofit_words.proofs.Numbers.{level_if}
use Rattle.ofit_words.proofs.read.level_is_good.Goals as goal

pub returns-in-Levels : goal.returns-in-Levels
returns-in-Levels c =
    level_if c.number_of.result c.is_some.result c.args.command (map string_bytes c.args.names.now) (string_bytes c.index-names-0.result) c.as_str.result.now c.in-Levels.is
    (one_name string_bytes c.args.names.now c.index-names-0.result (c.requires ∙ ap name_count c.in-Levels.is) c.index-names-0.is) c.as_str.ensures.value c.is_some.ensures c.number_of.ensures
