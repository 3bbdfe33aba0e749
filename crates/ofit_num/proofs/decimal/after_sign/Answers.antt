use Rattle.std.proofs.Common.{ℕ, [], ◌∷◌, refl, ap, ◌∙◌, inr}
use Rattle.ofit_num.proofs.decimal.after_sign.Goals as goal

pub returns-in-Some-eq43-default-clause-sign : goal.returns-in-Some-eq43-default-clause-sign
returns-in-Some-eq43-default-clause-sign c = (43 ∷ [], inr refl, c.in-Some-eq43-default.ensures.cases.0 ∙ ap (λ (b : ℕ). b ∷ c.in-Some-eq43-default.rest.now) c.in-Some-eq43-default.field-0-0-test)
