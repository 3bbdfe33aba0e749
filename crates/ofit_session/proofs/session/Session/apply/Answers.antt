use Rattle.std.proofs.Common.{ap, subst}
use Rattle.ofit_study.specs.Edited.{IsAccepted}
use Rattle.ofit_study.specs.Study.{Study}
use Rattle.ofit_session.specs.Fitted.{Fitted}
use Rattle.ofit_session.proofs.session.Session.apply.Goals as goal

pub edit_anew-requires-clause-accepted : goal.edit_anew-requires-clause-accepted
edit_anew-requires-clause-accepted c = subst (λ (s : Study). IsAccepted s c.args.edit.now) (ap (λ (f : Fitted). f.study) c.self.view_is) c.in_ok-change.ensures.accepted
