use Rattle.ofit_sheet.proofs.Readings.{bound_fault}
use Rattle.ofit_sheet.proofs.bounds.read_bound.Goals as goal

pub returns-in-Err : goal.returns-in-Err
returns-in-Err c = bound_fault c.args.text.now c.in-Err.fault (λ none. absurd (let yes = c.is.ensures.1 none in cc)) c.in-Err.ensures
