use Rattle.std.proofs.Common.{[], inr}
use Rattle.csv.specs.Records.{fields_of}
use Rattle.ofit_script.specs.Kinds.{row_number}
use Rattle.ofit_script.proofs.RecordFields.{first_bad}
use Rattle.ofit_script.proofs.Spelled.{removed_spelled}
use Rattle.ofit_script.proofs.record.removed.Goals as goal

pub returns-in-Ok : goal.returns-in-Ok
returns-in-Ok c = λ places. removed_spelled places (fields_of c.args.row.now) c.field_at.result.now c.in-Ok.number c.requires c.field_at.ensures c.in-Ok.ensures.ok

pub returns-in-Err : goal.returns-in-Err
returns-in-Err c = λ places. inr (first_bad places (fields_of c.args.row.now) c.args.number c.in-Err.fault row_number [] c.field_at.result.now c.field_at.ensures c.in-Err.ensures.err)
