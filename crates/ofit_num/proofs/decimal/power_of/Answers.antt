use Rattle.std.proofs.Common.{arith, ap, subst, sym, ◌∙◌, eqb-true, List, ℕ, length}
use Rattle.ofit_num.specs.DecimalText.{IsSpaces}
use Rattle.ofit_num.proofs.Runs.{not_true}
use Rattle.ofit_num.proofs.DecimalTexts.{power_parts}
use Rattle.ofit_num.proofs.Scaled.{three_digits}
use Rattle.ofit_num.proofs.decimal.power_of.Goals as goal

pub returns-then-is_empty-clause-no : goal.returns-then-is_empty-clause-no
returns-then-is_empty-clause-no c = λ x p.
    let same = power_parts c.args.text.now _ _ _ _ c.after_sign-negative.ensures.only c.digits_of.ensures.whole c.digits_of.ensures.digits c.digits_of.ensures.stops x p in
    omega (arith, p.some, ap length same.0, eqb-true (length c.digits_of.result.0.now) 0 (sym c.is_empty.ensures ∙ c.if-is_empty.true))

pub returns-then-digits-gt3-clause-no : goal.returns-then-digits-gt3-clause-no
returns-then-digits-gt3-clause-no c = λ x p.
    let same = power_parts c.args.text.now _ _ _ _ c.after_sign-negative.ensures.only c.digits_of.ensures.whole c.digits_of.ensures.digits c.digits_of.ensures.stops x p in
    omega (arith, p.most, ap length same.0, c.if-digits-gt3.true)

pub returns-then-not-are_spaces-clause-no : goal.returns-then-not-are_spaces-clause-no
returns-then-not-are_spaces-clause-no c = λ x p.
    let same = power_parts c.args.text.now _ _ _ _ c.after_sign-negative.ensures.only c.digits_of.ensures.whole c.digits_of.ensures.digits c.digits_of.ensures.stops x p in
    let P : List ℕ → Type 0 = IsSpaces in
    not_true (c.if-not-are_spaces.ensures.1 (subst P same.1 p.are_spaces))

pub returns-in-None-clause-no : goal.returns-in-None-clause-no
returns-in-None-clause-no c = λ x p. omega (arith, c.in-None.ensures, three_digits c.digits_of.result.0.now c.digits_of.ensures.digits c.if-digits-gt3.false)
