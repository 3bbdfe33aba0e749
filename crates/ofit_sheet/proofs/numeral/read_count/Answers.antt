use Rattle.std.proofs.Common.{Err, ap}
use Rattle.ofit_sheet.proofs.numeral.read_count.Goals as goal

pub returns-in-Err-NotWhole : goal.returns-in-Err-NotWhole
returns-in-Err-NotWhole c = c.in-Err-NotWhole.ensures.not_whole (ap Err c.in-Err-NotWhole.field-0-is)
