use Rattle.std.proofs.Common.{refl, arith}
use Rattle.ofit_order.proofs.Uniqueness.{HasComponent-below}
use Rattle.ofit_report.specs.Blocks.{block_order}
use Rattle.ofit_report.proofs.SameOrder.{component_of}
use Rattle.ofit_report.proofs.block.block_of.Goals as goal

pub overflow_add-result : goal.overflow_add-result
overflow_add-result c =
    let counted = c.component_count-blocks.ensures.count in
    omega (arith, HasComponent-below c.args.order.now counted.0 c.component_of.result counted.1 c.component_of.ensures.component, counted.2)

pub returns : goal.returns
returns c = (c.component_of.result, refl, component_of c.args.order.now (block_order c.args.study.now c.args.values.now) c.requires.order c.component_of.result c.args.place c.component_of.ensures.number)
