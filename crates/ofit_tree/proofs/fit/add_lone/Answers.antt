use Rattle.std.proofs.Common.{◌<◌, subst, ◌∷◌, length}
use Rattle.std.specs.List.Sorted.{IsPermutation}
use Rattle.std.specs.BinaryHeap.{heap_items}
use Rattle.ofit_num.specs.Fraction.{Fraction}
use Rattle.ofit_num.proofs.Lists.{All-slice_get}
use Rattle.ofit_loss.proofs.ProblemLaws.{group_fittable}
use Rattle.ofit_tree.proofs.Ranks.{rank_den}
use Rattle.ofit_tree.proofs.Starting.{start_more}
use Rattle.ofit_tree.proofs.fit.add_lone.Goals as goal

pub lone_block-requires-clause-fittable : goal.lone_block-requires-clause-fittable
lone_block-requires-clause-fittable g c = group_fittable c.args.tree.groups.now c.args.place _ c.rows.ensures c.requires.fittable

pub lone_block-requires-clause-some : goal.lone_block-requires-clause-some
lone_block-requires-clause-some g c = All-slice_get (λ rows. 0 < length rows) c.args.tree.groups.now c.args.place _ c.requires.filled c.rows.ensures

pub returns-clause-start : goal.returns-clause-start
returns-clause-start g c = rw (c.in_ok-push.ensures.items, c.in_ok-push-2.ensures.items)
    (start_more c.args.tree.direction g.L.Loss.IsPoolOf g.L.Loss.meaning g.L.Loss.STRICT c.args.tree.groups.now c.args.place c.args.forest.now.labels.items c.args.forest.now.slots.items (heap_items c.args.forest.now.queue) (heap_items c.push-3.new.self) c.in_ok-block.block c.requires.start
    (record { rows = c.rows.result.now; at = c.rows.ensures; pool = c.in_ok-block.ensures.pool; value = c.in_ok-block.ensures.value; top = c.in_ok-block.ensures.top; members = c.in_ok-block.ensures.members })
    (subst (λ (r : Fraction). IsPermutation (record { rank = r; block = c.args.place } ∷ heap_items c.args.forest.now.queue) (heap_items c.push-3.new.self)) c.rank_of-rank.ensures c.in_ok-push-3.ensures.permutation)
    (rank_den c.args.tree.direction c.in_ok-block.block.value c.in_ok-block.ensures.value.den))
