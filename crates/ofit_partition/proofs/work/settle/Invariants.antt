use Rattle.std.proofs.Common.{take}
use Rattle.ofit_partition.specs.Work.{AreSettled}
use Rattle.ofit_partition.proofs.work.settle.Given as goal

abbrev pub invariant-loop-place : goal.invariant-loop-place
invariant-loop-place l = AreSettled (take l.place-index l.places) l.value l.initial.values.items l.values.items
