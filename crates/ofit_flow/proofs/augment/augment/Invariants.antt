use Rattle.ofit_flow.proofs.Augmenting.{IsSent}
use Rattle.ofit_flow.proofs.augment.augment.Given as goal

abbrev pub invariant-loop-step : goal.invariant-loop-step
invariant-loop-step l = IsSent l.edges l.initial.amounts.items l.path l.by l.step-index l.amounts.items
