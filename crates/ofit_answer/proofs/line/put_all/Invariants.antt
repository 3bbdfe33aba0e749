use Rattle.std.proofs.Common.{◌≡◌, take}
use Rattle.std.specs.List.{flat_map}
use Rattle.ofit_outside.specs.Sink.{with_more}
use Rattle.ofit_answer.proofs.line.put_all.Given as goal

abbrev pub invariant-loop-piece : goal.invariant-loop-piece
invariant-loop-piece g l = record {
  told : g.E.Sink.written l.err ≡ with_more (g.E.Sink.written l.fn.err) (flat_map (λ p. p.now) (take l.piece-index l.pieces));
  stays : g.E.Sink.faults l.err ≡ g.E.Sink.faults l.fn.err;
}
