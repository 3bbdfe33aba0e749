use Rattle.ofit_session.proofs.Untouched.{order_of}
use Rattle.ofit_session.proofs.anew.fit_first.Goals as goal

pub returns-clause-order : goal.returns-clause-order
returns-clause-order c = order_of c.args.study.now c.in_ok-order.order c.in_ok-order.ensures.places c.in_ok-order.ensures.in_order c.in_ok-order.ensures.same
