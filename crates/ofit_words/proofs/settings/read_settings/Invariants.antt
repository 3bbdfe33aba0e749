use Rattle.std.proofs.Common.{take, map, []}
use Rattle.std.specs.Prelude.{string_bytes}
use Rattle.ofit_words.specs.Given.{AreFine}
use Rattle.ofit_words.specs.Read.{AreRead}
use Rattle.ofit_words.proofs.settings.read_settings.Given as goal

abbrev pub invariant-loop-at : goal.invariant-loop-at
invariant-loop-at l = record {
  fine : AreFine l.command l.force.places l.force.groups [] (map string_bytes (take l.at l.words));
  read : AreRead l.force.places l.force.groups (map string_bytes (take l.at l.words)) l.settings.items;
}
