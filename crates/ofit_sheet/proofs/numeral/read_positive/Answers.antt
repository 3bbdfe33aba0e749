use Rattle.ofit_sheet.proofs.Readings.{positive_fault}
use Rattle.ofit_sheet.proofs.numeral.read_positive.Goals as goal

pub returns-in-Err : goal.returns-in-Err
returns-in-Err c = positive_fault c.args.text.now c.args.limit c.in-Err.fault c.in-Err.ensures
