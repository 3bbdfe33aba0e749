use Rattle.std.proofs.Common.{◌≡◌, ◌++◌, List, ℕ, ap, ap₂, ◌∙◌, sym, append_assoc, take-append-drop}
use Rattle.ofit_outside.specs.Sink.{with_more}
use Rattle.ofit_sample.proofs.Fitted.{on_err}
use Rattle.ofit_top.proofs.Pieces.{with_more-append, gains_more}
use Rattle.ofit_top.proofs.output.put_text.Goals as goal

pub loop-rest-preserved : goal.loop-rest-preserved
loop-rest-preserved g c =
    let parts : c.loop-rest.rest.now ≡ c.split_at.result.0.now ++ c.split_at.result.1.now = sym (ap₂ (λ (a b : List ℕ). a ++ b) c.split_at.ensures.front c.split_at.ensures.back ∙ take-append-drop _ c.loop-rest.rest.now) in
    let so_far = c.loop-rest.invariant.parts in
    record {
      parts = (
        so_far.0 ++ c.split_at.result.0.now,
        so_far.1 ∙ ap (λ (t : List ℕ). so_far.0 ++ t) parts ∙ sym (append_assoc so_far.0 c.split_at.result.0.now c.split_at.result.1.now),
        c.in_ok-put.ensures.ok ∙ ap (λ w. with_more w c.split_at.result.0.now) so_far.2 ∙ with_more-append (g.O.Sink.written c.args.out.now) so_far.0 c.split_at.result.0.now,
      );
      stays = c.in_ok-put.ensures.stays ∙ c.loop-rest.invariant.stays;
    }

pub returns-in_err-put-clause-err : goal.returns-in_err-put-clause-err
returns-in_err-put-clause-err g c =
    let parts : c.loop-rest.rest.now ≡ c.split_at.result.0.now ++ c.split_at.result.1.now = sym (ap₂ (λ (a b : List ℕ). a ++ b) c.split_at.ensures.front c.split_at.ensures.back ∙ take-append-drop _ c.loop-rest.rest.now) in
    let so_far = c.loop-rest.invariant.parts in
    on_err c.from_residual.result _
    (gains_more (g.O.Sink.written c.args.out.now) (g.O.Sink.written c.loop-rest.out) (g.O.Sink.written c.put.new.self) c.args.text.now so_far.0 c.loop-rest.rest.now c.split_at.result.0.now c.split_at.result.1.now so_far.1 parts so_far.2 c.in_err-put.ensures.err)
