use Rattle.std.proofs.Common.{ℕ, subst, arith}
use Rattle.std.specs.BinaryHeap.{heap_items}
use Rattle.ofit_tree.specs.Forest.{IsStart}
use Rattle.ofit_tree.proofs.Starting.{start_forest}
use Rattle.ofit_tree.proofs.fit.lone_blocks.Goals as goal

pub add_lone-requires-clause-filled : goal.add_lone-requires-clause-filled
add_lone-requires-clause-filled g c = c.requires.filled

pub add_lone-requires-clause-fittable : goal.add_lone-requires-clause-fittable
add_lone-requires-clause-fittable g c = c.requires.fittable

pub returns-clause-forest : goal.returns-clause-forest
returns-clause-forest g c = start_forest c.args.tree.direction g.L.Loss.IsPoolOf g.L.Loss.meaning g.L.Loss.STRICT c.args.tree.groups.now g.met.L.Loss.laws c.requires.fittable c.requires.filled c.args.tree.parents.now _ _ _
    (subst (λ (n : ℕ). IsStart c.args.tree.direction g.L.Loss.IsPoolOf g.L.Loss.meaning g.L.Loss.STRICT c.args.tree.groups.now n c.loop-place.forest.labels.items c.loop-place.forest.slots.items (heap_items c.loop-place.forest.queue)) (omega arith) c.loop-place.invariant.1)
