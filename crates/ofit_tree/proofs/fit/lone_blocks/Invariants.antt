use Rattle.std.specs.BinaryHeap.{heap_items, IsHeap}
use Rattle.ofit_tree.specs.Entry.{entry_cmp}
use Rattle.ofit_tree.specs.Forest.{IsStart}
use Rattle.ofit_tree.proofs.fit.lone_blocks.Given as goal

abbrev pub invariant-loop-place : goal.invariant-loop-place
invariant-loop-place g l = IsHeap entry_cmp (heap_items l.forest.queue)
    × IsStart l.tree.direction g.L.Loss.IsPoolOf g.L.Loss.meaning g.L.Loss.STRICT l.tree.groups.now l.place l.forest.labels.items l.forest.slots.items (heap_items l.forest.queue)
