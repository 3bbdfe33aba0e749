use Rattle.ofit_num.proofs.Spelled.{positive_whole}
use Rattle.ofit_num.proofs.whole.is_whole.Goals as goal

pub returns-else-first-eq48-clause-yes : goal.returns-else-first-eq48-clause-yes
returns-else-first-eq48-clause-yes c = λ yes. positive_whole c.args.text.now c.in-Some.first.now c.in-Some.rest.now c.in-Some.ensures.cases.0 c.if-first-eq48.false (c.are_digits.ensures.0 yes)
