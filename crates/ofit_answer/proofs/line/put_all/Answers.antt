use Rattle.std.proofs.Common.{ℕ, inr, subst}
use Rattle.ofit_outside.specs.Faults.{Rose}
use Rattle.ofit_answer.proofs.Pieces.{first_part}
use Rattle.ofit_answer.proofs.line.put_all.Goals as goal

pub returns-in-Err : goal.returns-in-Err
returns-in-Err g c = inr (
  first_part (λ p. p.now) c.args.pieces.now c.loop-piece.piece-index _ c.loop-piece-test.true
      (g.E.Sink.written c.args.err.now) (g.E.Sink.written c.loop-piece.err) (g.E.Sink.written c.put.new.self) c.loop-piece.invariant.told c.in-Err.ensures.err,
  subst (λ (n : ℕ). Rose n (g.E.Sink.faults c.put.new.self)) c.loop-piece.invariant.stays c.in-Err.ensures.failed,
)
