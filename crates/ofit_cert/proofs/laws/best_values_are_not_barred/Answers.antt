use Rattle.ofit_cert.proofs.Ready.{never_above, never_below}
use Rattle.ofit_cert.proofs.laws.best_values_are_not_barred.Goals as goal

pub returns-clause-above : goal.returns-clause-above
returns-clause-above c = λ s fs spans v fractions are best set. never_above s v fs fractions best.count spans are best set

pub returns-clause-below : goal.returns-clause-below
returns-clause-below c = λ s fs spans v fractions are best set. never_below s v fs fractions best.count spans are best set
