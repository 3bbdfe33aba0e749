use Rattle.std.proofs.Common.{take}
use Rattle.ofit_chain.specs.Stacked.{IsStack}
use Rattle.ofit_tests.proofs.chains.values_after_each.Given as goal

abbrev pub invariant-loop-place : goal.invariant-loop-place
invariant-loop-place g l = IsStack g.L.Loss.IsPoolOf g.L.Loss.meaning g.L.Loss.STRICT (take l.place l.groups) l.stack.blocks.items
