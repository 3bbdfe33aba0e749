use Rattle.csv.specs.Records.{fields_of}
use Rattle.ofit_sheet.proofs.PeakedFaults.{no_header}
use Rattle.ofit_sheet.proofs.peaked.record.places_of.Goals as goal

pub returns-in-Err : goal.returns-in-Err
returns-in-Err c = no_header (fields_of c.args.row.now) c.in-Some.fields.kind.now c.in-Some.fields.first.now c.in-Some.fields.second.now c.in-Some.fields.third.now c.in-Err.field-0 c.in-Some.ensures c.in-Err.ensures
