use Rattle.ofit_sides.proofs.RowValues.{row_value}
use Rattle.ofit_sides.proofs.laws.least_medians_are_row_values.Goals as goal

pub returns : goal.returns
returns c = row_value
