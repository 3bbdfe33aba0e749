use Rattle.std.proofs.Common.{ℕ, List, [], ◌∷◌, refl, ap, ◌∙◌, inl, ◌≡◌}
use Rattle.ofit_num.proofs.Runs.{read_point}
use Rattle.ofit_num.proofs.decimal.fraction_of.Goals as goal

pub returns-in-Some-eq46-default-clause-point : goal.returns-in-Some-eq46-default-clause-point
returns-in-Some-eq46-default-clause-point c =
    let text : c.args.text.now ≡ 46 ∷ c.in-Some-eq46-default.rest.now = c.in-Some-eq46-default.ensures.cases.0 ∙ ap (λ (b : ℕ). b ∷ c.in-Some-eq46-default.rest.now) c.in-Some-eq46-default.field-0-0-test in
    (46 ∷ [], inl refl, text ∙ ap (λ (r : List ℕ). 46 ∷ r) c.digits_of.ensures.whole)

pub returns-in-Some-eq46-default-clause-only : goal.returns-in-Some-eq46-default-clause-only
returns-in-Some-eq46-default-clause-only c =
    let text : c.args.text.now ≡ 46 ∷ c.in-Some-eq46-default.rest.now = c.in-Some-eq46-default.ensures.cases.0 ∙ ap (λ (b : ℕ). b ∷ c.in-Some-eq46-default.rest.now) c.in-Some-eq46-default.field-0-0-test in
    λ p cs bs. read_point c.args.text.now _ _ _ p cs bs text c.digits_of.ensures.whole c.digits_of.ensures.digits c.digits_of.ensures.stops
