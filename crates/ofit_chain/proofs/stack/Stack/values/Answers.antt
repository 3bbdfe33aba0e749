use Rattle.std.proofs.Common.{arith, List, length, ◌++◌, map, take, replicate, subst, sym, ap, ◌∙◌}
use Rattle.ofit_num.specs.Fraction.{Fraction}
use Rattle.ofit_num.specs.Trial.{trial_of}
use Rattle.ofit_num.specs.Fit.{LeastBestValues}
use Rattle.ofit_num.specs.Settled.{IsSettled, IsLeastSettled}
use Rattle.ofit_chain.specs.Chain.{chain_problem}
use Rattle.ofit_chain.specs.Stretch.{values_of}
use Rattle.ofit_chain.specs.Covers.{stretch_of}
use Rattle.ofit_chain.proofs.Stacks.{stack_covers}
use Rattle.ofit_chain.proofs.Cover.{values_of-more, whole_values, covers_least_best, covers_settled, covers_least_settled}
use Rattle.ofit_chain.proofs.stack.Stack.values.Goals as goal

pub loop-block-preserved : goal.loop-block-preserved
loop-block-preserved g c =
    c.loop.invariant ∙ ap (λ n. values_of (map stretch_of (take c.loop-block.block-index c.deref-block-items.result.now)) ++ replicate n c.block-item.result.value) (omega arith)
    ∙ sym (values_of-more c.deref-block-items.result.now c.loop-block.block-index c.block-item.result (omega arith) c.block-item.is)

pub returns-clause-count : goal.returns-clause-count
returns-clause-count g c = λ groups stack. c.loop-block.values.ok.0 ∙ ap (λ (vs : List Fraction). length vs) (sym (whole_values c.args.self.now.blocks.items c.deref-block-items.result.now c.loop-block.values.items c.loop-block.block-index c.loop-block.invariant (omega arith) c.deref-block-items.ensures.value)) ∙ (covers_least_best g.L.Loss.IsPoolOf g.L.Loss.meaning g.L.Loss.STRICT g.met.L.Loss.laws groups stack.fittable c.args.self.now.blocks.items (stack_covers g.L.Loss.IsPoolOf g.L.Loss.meaning g.L.Loss.STRICT groups c.args.self.now.blocks.items stack)).count

pub returns-clause-least_best : goal.returns-clause-least_best
returns-clause-least_best g c = λ groups stack. subst (λ (vs : List Fraction). LeastBestValues g.L.Loss.meaning (chain_problem groups) vs)
    (whole_values c.args.self.now.blocks.items c.deref-block-items.result.now c.loop-block.values.items c.loop-block.block-index c.loop-block.invariant (omega arith) c.deref-block-items.ensures.value)
    (covers_least_best g.L.Loss.IsPoolOf g.L.Loss.meaning g.L.Loss.STRICT g.met.L.Loss.laws groups stack.fittable c.args.self.now.blocks.items (stack_covers g.L.Loss.IsPoolOf g.L.Loss.meaning g.L.Loss.STRICT groups c.args.self.now.blocks.items stack))

pub returns-clause-settled : goal.returns-clause-settled
returns-clause-settled g c = λ groups stack. subst (λ (vs : List Fraction). IsSettled g.L.Loss.meaning (chain_problem groups) (trial_of vs))
    (whole_values c.args.self.now.blocks.items c.deref-block-items.result.now c.loop-block.values.items c.loop-block.block-index c.loop-block.invariant (omega arith) c.deref-block-items.ensures.value)
    (covers_settled g.L.Loss.IsPoolOf g.L.Loss.meaning g.L.Loss.STRICT g.met.L.Loss.laws groups stack.fittable c.args.self.now.blocks.items (stack_covers g.L.Loss.IsPoolOf g.L.Loss.meaning g.L.Loss.STRICT groups c.args.self.now.blocks.items stack))

pub returns-clause-least_settled : goal.returns-clause-least_settled
returns-clause-least_settled g c = λ groups stack lax. subst (λ (vs : List Fraction). IsLeastSettled g.L.Loss.meaning (chain_problem groups) (trial_of vs))
    (whole_values c.args.self.now.blocks.items c.deref-block-items.result.now c.loop-block.values.items c.loop-block.block-index c.loop-block.invariant (omega arith) c.deref-block-items.ensures.value)
    (covers_least_settled g.L.Loss.IsPoolOf g.L.Loss.meaning g.L.Loss.STRICT g.met.L.Loss.laws groups stack.fittable c.args.self.now.blocks.items (stack_covers g.L.Loss.IsPoolOf g.L.Loss.meaning g.L.Loss.STRICT groups c.args.self.now.blocks.items stack) lax)
