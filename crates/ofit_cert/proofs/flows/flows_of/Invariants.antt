use Rattle.std.proofs.Common.{◌≡◌, take, map}
use Rattle.std.specs.List.{zip, filter}
use Rattle.ofit_cert.specs.TightFlows.{is_above_zero}
use Rattle.ofit_cert.proofs.flows.flows_of.Given as goal

abbrev pub invariant-loop-index : goal.invariant-loop-index
invariant-loop-index l = l.flows.items ≡ map (λ e. (e.0.0, e.0.1, e.1)) (filter (λ e. is_above_zero e.1) (take l.index (zip l.pairs l.amounts)))
