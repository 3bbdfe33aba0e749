use Rattle.std.proofs.Common.{take}
use Rattle.ofit_words.specs.Read.{LackKey}
use Rattle.ofit_words.proofs.setting.place_of.Given as goal

abbrev pub invariant-loop-place : goal.invariant-loop-place
invariant-loop-place l = LackKey (take l.place l.settings) l.key
