use Rattle.std.proofs.Common.{subst, List, ℕ}
use Rattle.ofit_num.specs.DecimalText.{IsUnsigned}
use Rattle.ofit_num.proofs.DecimalTexts.{decimal_number}
use Rattle.ofit_num.proofs.decimal.decimal_of.Goals as goal

pub returns-in-None-clause-no : goal.returns-in-None-clause-no
returns-in-None-clause-no c = λ s m f x p.
    let spaces = c.after_spaces.ensures.spaces in
    let P : List ℕ → Type 0 = λ r. IsUnsigned r m f x in
    c.in-None.ensures.no m f x (subst P (decimal_number c.args.text.now spaces.0 _ _ _ spaces.2 spaces.1 c.after_spaces.ensures.stops c.after_sign-negative.ensures.only s m f x p) p.is_number)
