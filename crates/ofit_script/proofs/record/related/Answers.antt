use Rattle.csv.specs.Records.{fields_of}
use Rattle.ofit_script.proofs.RecordFields.{or_else}
use Rattle.ofit_script.proofs.Spelled.{related_spelled}
use Rattle.ofit_script.proofs.record.related.Goals as goal

pub returns-in-Ok : goal.returns-in-Ok
returns-in-Ok c = λ places. related_spelled places (fields_of c.args.row.now) c.in-Ok.low c.in-Ok.high c.requires c.in-Ok.ensures.ok.0 c.in-Ok.ensures.ok.1 c.in-Ok.ensures.ok.2

pub returns-in-Err : goal.returns-in-Err
returns-in-Err c = λ places. or_else (λ bad. bad places) c.in-Err.ensures.err
