use Rattle.csv.specs.Records.{fields_of}
use Rattle.ofit_sheet.proofs.PeakedWhole.{header_read}
use Rattle.ofit_sheet.proofs.peaked.read.read_header.Goals as goal

pub returns-in-None : goal.returns-in-None
returns-in-None c = header_read c.args.cursor.now.records c.advance.new.cursor.records (fields_of c.advance.new.cursor.row) c.in-Ok.ensures.0 c.in-None.ensures
