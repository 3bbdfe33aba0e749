use Rattle.ofit_num.proofs.Numerals.{IsSigned-decimal, IsSigned-text, IsSigned-number}
use Rattle.ofit_num.proofs.laws.signed_texts_are_canonical.Goals as goal

pub returns-clause-canonical : goal.returns-clause-canonical
returns-clause-canonical c = IsSigned-decimal

pub returns-clause-one_text : goal.returns-clause-one_text
returns-clause-one_text c = IsSigned-text

pub returns-clause-one_number : goal.returns-clause-one_number
returns-clause-one_number c = IsSigned-number
