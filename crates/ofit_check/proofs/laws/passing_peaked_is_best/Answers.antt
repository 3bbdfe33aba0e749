use Rattle.ofit_check.proofs.PeakPassed.{passed_is_best}
use Rattle.ofit_check.proofs.laws.passing_peaked_is_best.Goals as goal

pub returns : goal.returns
returns c = passed_is_best
