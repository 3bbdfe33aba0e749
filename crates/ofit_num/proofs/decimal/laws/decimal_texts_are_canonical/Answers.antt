use Rattle.ofit_num.proofs.DecimalTexts.{one_decimal, one_number}
use Rattle.ofit_num.proofs.Fixed.{one_fixed}
use Rattle.ofit_num.proofs.ReadBack.{one_answer}
use Rattle.ofit_num.proofs.decimal.laws.decimal_texts_are_canonical.Goals as goal

pub returns-clause-one_sign : goal.returns-clause-one_sign
returns-clause-one_sign c = λ text s t m n f g x y p q. (one_decimal text s t m n f g x y p q).0

pub returns-clause-one_reading : goal.returns-clause-one_reading
returns-clause-one_reading c = λ text s t m n f g x y p q. let all = one_decimal text s t m n f g x y p q in (all.1, all.2, all.3)

pub returns-clause-one_number : goal.returns-clause-one_number
returns-clause-one_number c = one_number

pub returns-clause-one_answer : goal.returns-clause-one_answer
returns-clause-one_answer c = one_answer

pub returns-clause-one_text : goal.returns-clause-one_text
returns-clause-one_text c = one_fixed
