use Rattle.ofit_num.proofs.Numerals.{IsWhole-decimal, IsWhole-text, IsWhole-number}
use Rattle.ofit_num.proofs.laws.whole_texts_are_canonical.Goals as goal

pub returns-clause-canonical : goal.returns-clause-canonical
returns-clause-canonical c = IsWhole-decimal

pub returns-clause-one_text : goal.returns-clause-one_text
returns-clause-one_text c = IsWhole-text

pub returns-clause-one_number : goal.returns-clause-one_number
returns-clause-one_number c = IsWhole-number
