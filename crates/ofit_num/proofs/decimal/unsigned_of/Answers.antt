use Rattle.std.proofs.Common.{arith, ap, subst, List, ℕ, length, length-append}
use Rattle.ofit_num.specs.DecimalText.{IsEnd}
use Rattle.ofit_num.proofs.DecimalTexts.{unsigned_parts}
use Rattle.ofit_num.proofs.decimal.unsigned_of.Goals as goal

pub returns-in-None-clause-no : goal.returns-in-None-clause-no
returns-in-None-clause-no c = λ m f x u.
    let same = unsigned_parts c.args.text.now _ _ _ _ c.digits_of.ensures.whole c.digits_of.ensures.digits c.digits_of.ensures.stops c.fraction_of.ensures.only m f x u in
    let P : List ℕ → Type 0 = λ r. IsEnd r x in
    c.in-None.ensures.no x (subst P same.2 u.is_end)

pub returns-then-whole-fraction-eq0-clause-no : goal.returns-then-whole-fraction-eq0-clause-no
returns-then-whole-fraction-eq0-clause-no c = λ m f x u.
    let same = unsigned_parts c.args.text.now _ _ _ _ c.digits_of.ensures.whole c.digits_of.ensures.digits c.digits_of.ensures.stops c.fraction_of.ensures.only m f x u in
    omega (arith, u.some, length-append u.whole u.fraction, ap length same.0, ap length same.1, c.if-whole-fraction-eq0.true)
