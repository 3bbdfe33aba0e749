use Rattle.std.proofs.Common.{ℕ, List, sym, subst}
use Rattle.ofit_study.specs.declared.edit.Edit.TheVariants.{Add}
use Rattle.ofit_study.specs.Edited.{IsAccepted}
use Rattle.std.proofs.lemmas.Result.{on_ok_weaker}
use Rattle.ofit_study.proofs.study.Study.check_edit.Goals as goal

pub returns-in-Add-clause-accepted : goal.returns-in-Add-clause-accepted
returns-in-Add-clause-accepted c =
    on_ok_weaker c.check_added.result
    (λ h. subst (IsAccepted c.args.self.now) (sym c.in-Add.is) (subst (λ (n : List ℕ). IsAccepted c.args.self.now (Add n c.in-Add.value c.in-Add.weight)) c.bytes.ensures.value (h c.in-Add.value)))
    c.check_added.ensures.accepted

pub returns-in-Value-clause-accepted : goal.returns-in-Value-clause-accepted
returns-in-Value-clause-accepted c = on_ok_weaker c.check_value.result (λ h. subst (IsAccepted c.args.self.now) (sym c.in-Value.is) (h c.in-Value.value)) c.check_value.ensures.accepted

pub returns-in-Weight-clause-accepted : goal.returns-in-Weight-clause-accepted
returns-in-Weight-clause-accepted c = on_ok_weaker c.check_weight.result (λ h. subst (IsAccepted c.args.self.now) (sym c.in-Weight.is) h) c.check_weight.ensures.accepted
