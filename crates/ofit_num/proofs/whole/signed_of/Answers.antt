use Rattle.std.proofs.Common.{◌≡◌, ◌∙◌, ap, ◌∷◌, ℕ}
use Rattle.ofit_num.specs.declared.whole.WholeFault.TheVariants.{NotWhole, TooLarge}
use Rattle.ofit_num.proofs.Spelled.{IsSigned-minus, IsSigned-minus_large, IsSigned-plain_large, same_fault}
use Rattle.ofit_num.proofs.whole.signed_of.Goals as goal

pub returns-in-Err-clause-not_whole : goal.returns-in-Err-clause-not_whole
returns-in-Err-clause-not_whole c = λ e.
    let text : c.args.text.now ≡ 45 ∷ c.in-Some.rest.now = c.in-Some.ensures.cases.0 ∙ ap (λ (b : ℕ). b ∷ c.in-Some.rest.now) c.if-first-eq45.true in
    IsSigned-minus _ _ text (c.in-Err.ensures.not_whole (same_fault c.in-Err.fault NotWhole e))

pub returns-in-Err-clause-too_large : goal.returns-in-Err-clause-too_large
returns-in-Err-clause-too_large c = λ e.
    let text : c.args.text.now ≡ 45 ∷ c.in-Some.rest.now = c.in-Some.ensures.cases.0 ∙ ap (λ (b : ℕ). b ∷ c.in-Some.rest.now) c.if-first-eq45.true in
    IsSigned-minus_large _ _ c.args.limit text (c.in-Err.ensures.too_large (same_fault c.in-Err.fault TooLarge e))

pub returns-in-Err-whole_of-clause-too_large : goal.returns-in-Err-whole_of-clause-too_large
returns-in-Err-whole_of-clause-too_large c = λ e. IsSigned-plain_large c.args.text.now c.args.limit (c.in-Err-whole_of.ensures.too_large (same_fault c.in-Err-whole_of.fault TooLarge e))
