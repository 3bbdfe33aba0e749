use Rattle.ofit_report.specs.Blocks.{order_of}
use Rattle.ofit_report.proofs.SameOrder.{count_of}
use Rattle.ofit_report.proofs.count.count_components.Goals as goal

pub returns : goal.returns
returns c = count_of c.in_ok-order.order (order_of c.args.study.now) (record { places = c.in_ok-order.ensures.places; pairs = c.in_ok-order.ensures.same }) _ c.component_count.ensures.count
