use Rattle.std.proofs.Common.{◌≡◌, Ok, ap, sym, subst}
use Rattle.ofit_fit.proofs.Fitted.{at_any}
use Rattle.ofit_study.specs.Edited.{Edited, IsAccepted}
use Rattle.ofit_study.specs.Study.{Study}
use Rattle.ofit_session.specs.Fitted.{Fitted}
use Rattle.ofit_session.specs.CountsAtMost.{CountsAtMost}
use Rattle.ofit_session.proofs.Untouched.{counted_so}
use Rattle.ofit_session.proofs.session.Session.edit_anew.Goals as goal

pub returns-in_err-order-clause-limited : goal.returns-in_err-order-clause-limited
returns-in_err-order-clause-limited c =
    let same : c.self.inside.study ≡ c.args.self.now.study = ap (λ (f : Fitted). f.study) c.self.view_is in
    let is : Edited c.self.inside.study c.args.edit.now (Ok c.in_ok-study.study) = (subst (λ (s : Study). IsAccepted s c.args.edit.now) (sym same) c.requires.accepted, c.in_ok-study.ensures) in
    at_any c.from_residual-in_err-order.result
    (subst (λ (s : Study). CountsAtMost s c.args.edit.now c.args.tally.now c.fit_after.new.tally) same
    (counted_so c.self.inside.study c.args.edit.now c.in_ok-study.study c.args.tally.now c.fit_after.new.tally is c.in_err-order.ensures.limited))

pub invariant_of-self : goal.invariant_of-self
invariant_of-self c =
    (c.in_ok-order.ensures.fit, c.in_ok-order.ensures.order)
