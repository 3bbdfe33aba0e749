use Rattle.ofit_session.proofs.Untouched.{order_of}
use Rattle.ofit_session.proofs.anew.fit_after.Goals as goal

pub fit_edited-requires-clause-order : goal.fit_edited-requires-clause-order
fit_edited-requires-clause-order c = order_of c.args.after.now c.in_ok-order.order c.in_ok-order.ensures.places c.in_ok-order.ensures.in_order c.in_ok-order.ensures.same

pub returns-clause-order : goal.returns-clause-order
returns-clause-order c = order_of c.args.after.now c.in_ok-order.order c.in_ok-order.ensures.places c.in_ok-order.ensures.in_order c.in_ok-order.ensures.same
