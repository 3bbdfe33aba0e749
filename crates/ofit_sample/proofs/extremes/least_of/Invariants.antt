use Rattle.ofit_sample.proofs.Comparing.{IsLeastUpto}
use Rattle.ofit_sample.proofs.extremes.least_of.Given as goal

abbrev pub invariant-loop-value : goal.invariant-loop-value
invariant-loop-value l = IsLeastUpto l.values l.value-index l.least
