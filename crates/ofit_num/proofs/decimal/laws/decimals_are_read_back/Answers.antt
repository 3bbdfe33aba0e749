use Rattle.ofit_num.proofs.Fixed.{fixed_units}
use Rattle.ofit_num.proofs.decimal.laws.decimals_are_read_back.Goals as goal

pub returns : goal.returns
returns c = fixed_units
