use Rattle.std.proofs.lemmas.List.Elements.{All-nil}
use Rattle.std.proofs.Common.{◌<◌, length, []}
use Rattle.ofit_chain.proofs.Stacks.{absorbs_none, absorbs_can_merge, absorbs_few, absorbs_more, absorbs_all, last_fittable}
use Rattle.ofit_chain.proofs.stack.Stack.absorb.Goals as goal

pub block_of-requires-clause-fittable : goal.block_of-requires-clause-fittable
block_of-requires-clause-fittable g c = last_fittable c.requires.groups c.args.rows.now c.requires.fittable

pub block_of-requires-clause-some : goal.block_of-requires-clause-some
block_of-requires-clause-some g c = c.requires.some

pub loop-last-init : goal.loop-last-init
loop-last-init g c = λ groups before more rest fit. absorbs_none g.L.Loss.IsPoolOf g.L.Loss.meaning g.L.Loss.STRICT g.met.L.Loss.laws groups c.args.self.now.blocks.items before c.args.rows.now c.requires.some more rest fit
    c.in_ok-block.block c.in_ok-block.ensures.pool c.in_ok-block.ensures.value c.in_ok-block.ensures.groups

pub merge-requires-clause-pools : goal.merge-requires-clause-pools
merge-requires-clause-pools g c = absorbs_can_merge g.L.Loss.IsPoolOf g.L.Loss.meaning g.L.Loss.STRICT g.met.L.Loss.laws c.requires.groups c.args.self.now.blocks.items c.requires.stack c.args.rows.now c.requires.some [] (All-nil (λ rows. 0 < length rows)) c.requires.fittable
    c.take_above.new.stack.items c.in-Some.last c.loop-last.block
    (rw c.in-Some.ensures.some at (c.loop-last.invariant c.requires.groups c.requires.stack [] (All-nil (λ rows. 0 < length rows)) c.requires.fittable))

pub merge-requires-clause-groups : goal.merge-requires-clause-groups
merge-requires-clause-groups g c = absorbs_few g.L.Loss.IsPoolOf g.L.Loss.meaning g.L.Loss.STRICT g.met.L.Loss.laws c.requires.groups c.args.self.now.blocks.items c.requires.stack c.args.rows.now c.requires.some [] (All-nil (λ rows. 0 < length rows)) c.requires.fittable
    c.take_above.new.stack.items c.in-Some.last c.loop-last.block
    (rw c.in-Some.ensures.some at (c.loop-last.invariant c.requires.groups c.requires.stack [] (All-nil (λ rows. 0 < length rows)) c.requires.fittable))

pub loop-last-preserved : goal.loop-last-preserved
loop-last-preserved g c = λ groups before more rest fit. absorbs_more g.L.Loss.IsPoolOf g.L.Loss.meaning g.L.Loss.STRICT g.met.L.Loss.laws groups c.args.self.now.blocks.items before c.args.rows.now c.requires.some more rest fit
    c.take_above.new.stack.items c.in-Some.last c.loop-last.block
    (rw c.in-Some.ensures.some at (c.loop-last.invariant groups before more rest fit))
    c.in_ok-block-2.block c.in-Some.ensures.at_least c.in_ok-block-2.ensures.groups c.in_ok-block-2.ensures.pool c.in_ok-block-2.ensures.value

pub returns : goal.returns
returns g c = λ groups before alone. rw (c.in_ok-push.ensures.items, c.in_default.ensures.none) (absorbs_all g.L.Loss.IsPoolOf g.L.Loss.meaning g.L.Loss.STRICT g.met.L.Loss.laws groups c.args.self.now.blocks.items before c.args.rows.now c.requires.some
    c.loop-last.self.blocks.items c.loop-last.block alone (c.loop-last.invariant groups before) c.in_default.ensures.below)
