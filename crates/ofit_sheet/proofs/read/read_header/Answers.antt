use Rattle.csv.specs.Records.{fields_of}
use Rattle.ofit_sheet.proofs.Reached.{header_read}
use Rattle.ofit_sheet.proofs.read.read_header.Goals as goal

pub returns-in-None : goal.returns-in-None
returns-in-None c = header_read c.args.records.now c.read_next.new.self (fields_of c.read_next.new.into) (c.in-Ok-true.ensures.more c.in-Ok-true.field-0-test) c.in-None.ensures
