use Rattle.std.proofs.Common.{◌≡◌, ◌++◌, map, take, replicate}
use Rattle.ofit_chain.specs.Stretch.{values_of}
use Rattle.ofit_chain.specs.Covers.{stretch_of}
use Rattle.ofit_chain.proofs.stack.Stack.values.Given as goal

abbrev pub invariant-loop-block : goal.invariant-loop-block
invariant-loop-block g l = l.values.items ≡ values_of (map stretch_of (take l.block-index l.block-items))

abbrev pub invariant-loop : goal.invariant-loop
invariant-loop g l = l.values.items ≡ values_of (map stretch_of (take l.block-index l.block-items)) ++ replicate l.counter l.block.value
