use Rattle.ofit_study.specs.Edited.{touched}
use Rattle.ofit_session.proofs.Touches.{holding_from}
use Rattle.ofit_session.proofs.touch.touched_components.Goals as goal

pub returns-clause-holding : goal.returns-clause-holding
returns-clause-holding c =
    holding_from c.args.order.now c.args.after.now (touched c.args.before.now c.args.edit.now) c.both_touched-first.result.0 c.both_touched-first.result.1 c.both_touched-first.ensures c.rising.result c.rising.ensures.rising c.rising.ensures.exact
