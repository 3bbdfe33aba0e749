use Rattle.ofit_top.specs.Run.{texts}
use Rattle.ofit_top.specs.Steps.{EndsUnread}
use Rattle.ofit_top.proofs.Endings.{at_err, is_read, words_unread, stop_unread}
use Rattle.ofit_top.proofs.top.ready_words.Goals as goal

pub returns-in_err-job-clause-ends : goal.returns-in_err-job-clause-ends
returns-in_err-job-clause-ends g c =
    at_err c.from_residual.result _ (EndsUnread (texts c.args.words.now) (g.F.Folder.held c.args.folder.now) _ _) c.from_residual.ensures.1
    (words_unread (texts c.args.words.now) (g.F.Folder.held c.args.folder.now) (g.F.Folder.faults c.args.folder.now) _ c.in_err-job.ensures.read)

pub returns-in_err-ready-clause-ends : goal.returns-in_err-ready-clause-ends
returns-in_err-ready-clause-ends g c =
    at_err c.from_residual-in_err-ready.result _ (EndsUnread (texts c.args.words.now) (g.F.Folder.held c.args.folder.now) _ _) c.from_residual-in_err-ready.ensures.1
    (stop_unread (texts c.args.words.now) (g.F.Folder.held c.args.folder.now) (g.F.Folder.faults c.args.folder.now) (g.F.Folder.faults c.ready_from.new.folder) c.in_ok-job.job _ c.in_ok-job.ensures.read c.in_err-ready.ensures.stops c.in_err-ready.ensures.named)

pub returns-clause-ready : goal.returns-clause-ready
returns-clause-ready g c = record { job = c.in_ok-job.job; read = is_read (texts c.args.words.now) c.in_ok-job.job c.in_ok-job.ensures.read; given = c.in_ok-ready.ensures.ready }
