use Rattle.std.proofs.Common.{◌≡◌, subst, List, length, rules}
use Rattle.std.proofs.lemmas.List.{nil_from_length}
use Rattle.std.specs.BinaryHeap.{heap_items}
use Rattle.ofit_tree.specs.declared.entry.Entry.{Entry}
use Rattle.ofit_tree.specs.Forest.{IsForest}
use Rattle.ofit_tree.proofs.Queues.{forest_permuted, first_of_heap}
use Rattle.ofit_tree.proofs.fit.settled_blocks.Goals as goal

pub take_up-requires-clause-forest : goal.take_up-requires-clause-forest
take_up-requires-clause-forest g c = forest_permuted c.args.tree.direction g.L.Loss.IsPoolOf g.L.Loss.meaning g.L.Loss.STRICT c.args.tree.groups.now c.args.tree.parents.now c.loop-entry.forest.labels.items c.loop-entry.forest.slots.items _ _ c.in-Some.ensures.permutation c.loop-entry.invariant.1

pub take_up-requires-clause-first : goal.take_up-requires-clause-first
take_up-requires-clause-first g c = first_of_heap (length c.args.tree.groups.now) c.in-Some.entry (heap_items c.pop.new.self)
    (forest_permuted c.args.tree.direction g.L.Loss.IsPoolOf g.L.Loss.meaning g.L.Loss.STRICT c.args.tree.groups.now c.args.tree.parents.now c.loop-entry.forest.labels.items c.loop-entry.forest.slots.items _ _ c.in-Some.ensures.permutation c.loop-entry.invariant.1).entries
    (c.in-Some.ensures.below_top c.loop-entry.invariant.0)

pub returns : goal.returns
returns g c =
    let none : length (heap_items c.loop-entry.forest.queue) ≡ 0 = search rules in
    subst (λ (queue : List Entry). IsForest c.args.tree.direction g.L.Loss.IsPoolOf g.L.Loss.meaning g.L.Loss.STRICT c.args.tree.groups.now c.args.tree.parents.now c.loop-entry.forest.labels.items c.loop-entry.forest.slots.items queue)
    (nil_from_length (heap_items c.loop-entry.forest.queue) none) c.loop-entry.invariant.1
