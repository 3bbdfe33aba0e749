use Rattle.std.proofs.Common.{◌<◌, ℕ}
use Rattle.ofit_cut.specs.Sets.{weight_at}
use Rattle.ofit_cut.specs.Span.{IsInSpan, span_at}
use Rattle.ofit_cut.proofs.balances.are_in_spans.Given as goal

abbrev pub invariant-loop-node : goal.invariant-loop-node
invariant-loop-node l = (k : ℕ) → k < l.node → IsInSpan (span_at l.spans k) (weight_at l.balances k)
