use Rattle.std.proofs.Common.{◌≡◌, ◌++◌, ℕ, List, length}
use Rattle.ofit_outside.specs.Sink.{with_more}
use Rattle.ofit_top.proofs.output.put_text.Given as goal

abbrev pub invariant-loop-rest : goal.invariant-loop-rest
invariant-loop-rest g l = record {
  parts : (front : List ℕ) × (l.text ≡ front ++ l.rest) × (g.O.Sink.written l.out ≡ with_more (g.O.Sink.written l.fn.out) front);
  stays : g.O.Sink.faults l.out ≡ g.O.Sink.faults l.fn.out;
}

abbrev pub decreases-loop-rest : goal.decreases-loop-rest
decreases-loop-rest g l = length l.rest
