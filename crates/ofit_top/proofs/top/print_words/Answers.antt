use Rattle.ofit_top.specs.Run.{texts}
use Rattle.ofit_top.specs.Steps.{EndsUnwritten}
use Rattle.ofit_answer.specs.declared.answer.Answer.TheVariants.{Memory}
use Rattle.ofit_top.proofs.Endings.{at_err, unread_unwritten, wanting_unwritten}
use Rattle.ofit_top.proofs.top.print_words.Goals as goal

pub returns-in_err-ready-clause-ends : goal.returns-in_err-ready-clause-ends
returns-in_err-ready-clause-ends g c =
    at_err c.from_residual.result _ (EndsUnwritten (texts c.args.words.now) (g.F.Folder.held c.args.folder.now) (g.F.Folder.faults c.args.folder.now) (g.F.Folder.faults c.ready_words.new.folder) c.args.tally.now c.args.tally.now) c.from_residual.ensures.1
    (unread_unwritten (texts c.args.words.now) (g.F.Folder.held c.args.folder.now) _ _ c.args.tally.now _ c.in_err-ready.ensures.ends)

pub returns-in_err-printed-clause-ends : goal.returns-in_err-printed-clause-ends
returns-in_err-printed-clause-ends g c =
    at_err c.from_residual-in_err-printed.result Memory
    (EndsUnwritten (texts c.args.words.now) (g.F.Folder.held c.args.folder.now) (g.F.Folder.faults c.args.folder.now) (g.F.Folder.faults c.ready_words.new.folder) c.args.tally.now c.do_job.new.tally) c.from_residual-in_err-printed.ensures.1
    (wanting_unwritten (texts c.args.words.now) (g.F.Folder.held c.args.folder.now) _ _ c.args.tally.now c.do_job.new.tally c.in_ok-ready.ready c.in_ok-ready.ensures.ready c.in_ok-ready.ensures.stays c.in_err-printed.ensures.within)

pub returns-clause-prints : goal.returns-clause-prints
returns-clause-prints g c = record { ready = c.in_ok-ready.ready; asked = c.in_ok-ready.ensures.ready; gives = c.in_ok-printed.ensures.gives; counts = c.in_ok-printed.ensures.counts }
