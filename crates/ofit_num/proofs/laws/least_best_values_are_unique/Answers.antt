use Rattle.ofit_num.proofs.Unique.{unique_least_best}
use Rattle.ofit_num.proofs.laws.least_best_values_are_unique.Goals as goal

pub returns : goal.returns
returns c = unique_least_best
