use Rattle.std.proofs.Common.{◌+◌}
use Rattle.std.specs.List.{count_by}
use Rattle.std.specs.BinaryHeap.{heap_items, heap_len, IsHeap}
use Rattle.ofit_tree.specs.Entry.{entry_cmp}
use Rattle.ofit_tree.specs.Forest.{IsForest, is_open}
use Rattle.ofit_tree.proofs.fit.settled_blocks.Given as goal

abbrev pub invariant-loop-entry : goal.invariant-loop-entry
invariant-loop-entry g l = IsHeap entry_cmp (heap_items l.forest.queue)
    × IsForest l.tree.direction g.L.Loss.IsPoolOf g.L.Loss.meaning g.L.Loss.STRICT l.tree.groups.now l.tree.parents.now l.forest.labels.items l.forest.slots.items (heap_items l.forest.queue)

abbrev pub decreases-loop-entry : goal.decreases-loop-entry
decreases-loop-entry g l = heap_len l.forest.queue + count_by is_open l.forest.slots.items
