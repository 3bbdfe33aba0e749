use Rattle.std.proofs.Common.{ap, subst, ◌∙◌, ◌<◌, ℕ, List, length}
use Rattle.ofit_outside.specs.Sink.{with_more, GainsPrefix}
use Rattle.ofit_answer.specs.declared.answer.Answer.TheVariants.{WriteFault}
use Rattle.ofit_top.specs.Run.{texts}
use Rattle.ofit_top.proofs.Endings.{turned, part_end, job_end}
use Rattle.ofit_top.proofs.top.do_words.Goals as goal

pub returns-in_err-printed-clause-ends : goal.returns-in_err-printed-clause-ends
returns-in_err-printed-clause-ends g c =
    turned (texts c.args.words.now) _ _ c.from_residual.result _ c.from_residual.ensures.1
    (c.in_err-printed.ensures.ends.ends (g.F.Folder.held c.print_words.new.folder) (g.O.Sink.written c.args.out.now) (g.O.Sink.faults c.args.out.now))

pub returns-in_err-put_text-clause-ends : goal.returns-in_err-put_text-clause-ends
returns-in_err-put_text-clause-ends g c =
    let prints = c.in_ok-printed.ensures.prints in
    turned (texts c.args.words.now) _ _ c.from_residual-in_err-put_text.result WriteFault c.from_residual-in_err-put_text.ensures.1
    (part_end (texts c.args.words.now) _ _ prints.ready c.in_ok-printed.printed.answer c.in_ok-printed.printed.text.items prints.asked prints.gives prints.counts
    (subst (λ (t : List ℕ). 0 < length t) c.as_slice.ensures.value c.in_err-put_text.ensures.some)
    (subst (GainsPrefix (g.O.Sink.written c.args.out.now) (g.O.Sink.written c.put_text.new.out)) c.as_slice.ensures.value c.in_err-put_text.ensures.err)
    c.in_ok-printed.ensures.stays c.in_err-put_text.ensures.failed)

pub returns-clause-ends : goal.returns-clause-ends
returns-clause-ends g c =
    let prints = c.in_ok-printed.ensures.prints in
    job_end (texts c.args.words.now) _ _ prints.ready c.in_ok-printed.printed.answer c.in_ok-printed.printed.text.items prints.asked prints.gives prints.counts
    (c.in_ok-put_text.ensures.ok ∙ ap (with_more (g.O.Sink.written c.args.out.now)) c.as_slice.ensures.value)
    c.in_ok-printed.ensures.stays c.in_ok-put_text.ensures.stays
