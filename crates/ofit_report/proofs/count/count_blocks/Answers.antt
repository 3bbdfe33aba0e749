use Rattle.ofit_report.specs.Blocks.{block_order}
use Rattle.ofit_report.proofs.SameOrder.{count_of}
use Rattle.ofit_report.proofs.count.count_blocks.Goals as goal

pub returns : goal.returns
returns c = count_of c.in_ok-order.order (block_order c.args.study.now c.args.values.now) c.in_ok-order.ensures _ c.component_count-blocks.ensures.count
