use Rattle.ofit_session.proofs.Touches.{two_touched}
use Rattle.ofit_session.proofs.touch.ends_touched.Goals as goal

pub returns : goal.returns
returns c = two_touched c.args.order.now c.args.after.now c.args.low.now c.args.high.now c.component_named.result c.component_named-2.result c.component_named.ensures c.component_named-2.ensures
