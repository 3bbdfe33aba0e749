use Rattle.ofit_sample.proofs.Comparing.{IsGreatestUpto}
use Rattle.ofit_sample.proofs.extremes.greatest_of.Given as goal

abbrev pub invariant-loop-value : goal.invariant-loop-value
invariant-loop-value l = IsGreatestUpto l.values l.value-index l.greatest
