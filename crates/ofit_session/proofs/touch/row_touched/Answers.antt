use Rattle.ofit_study.specs.Edited.{groups_numbered}
use Rattle.ofit_session.proofs.Touches.{none_touched, one_touched}
use Rattle.ofit_session.proofs.touch.row_touched.Goals as goal

pub returns-in-Some : goal.returns-in-Some
returns-in-Some c = one_touched c.args.order.now c.args.after.now (groups_numbered c.args.before.now c.args.number) c.in-Some.name.now c.component_named.result c.in-Some.ensures c.component_named.ensures

pub returns-in-None : goal.returns-in-None
returns-in-None c = none_touched c.args.order.now c.args.after.now (groups_numbered c.args.before.now c.args.number) c.in-None.ensures
