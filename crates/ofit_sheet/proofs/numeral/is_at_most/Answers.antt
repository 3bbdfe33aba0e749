use Rattle.ofit_sheet.proofs.Numerals.{both_minus}
use Rattle.ofit_sheet.proofs.numeral.is_at_most.Goals as goal

pub returns-in-Some-Some : goal.returns-in-Some-Some
returns-in-Some-Some c = λ y z a b.
    both_minus c.is_whole_at_most-in-Some-Some.result c.args.low.now c.args.high.now c.in-Some-Some.low_size.now c.in-Some-Some.high_size.now y z c.in-Some-Some.ensures c.in-Some-Some.ensures' c.is_whole_at_most-in-Some-Some.ensures a b
