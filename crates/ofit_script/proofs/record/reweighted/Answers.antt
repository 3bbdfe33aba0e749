use Rattle.std.proofs.Common.{[], ◌∷◌, inr}
use Rattle.csv.specs.Records.{fields_of}
use Rattle.ofit_script.specs.Kinds.{row_number, row_weight}
use Rattle.ofit_script.proofs.RecordFields.{first_bad, second_bad}
use Rattle.ofit_script.proofs.Spelled.{reweighted_spelled}
use Rattle.ofit_script.proofs.record.reweighted.Goals as goal

pub returns-in-Err : goal.returns-in-Err
returns-in-Err c = λ places. inr (first_bad places (fields_of c.args.row.now) c.args.number c.in-Err.fault row_number (row_weight ∷ []) c.field_at.result.now c.field_at.ensures c.in-Err.ensures.err)

pub returns-in-Ok-row_weight : goal.returns-in-Ok-row_weight
returns-in-Ok-row_weight c = λ places.
    reweighted_spelled places (fields_of c.args.row.now) c.field_at.result.now c.field_at-2.result.now c.in-Ok.of c.in-Ok-row_weight.weight c.requires c.field_at.ensures c.field_at-2.ensures c.in-Ok.ensures.ok c.in-Ok-row_weight.ensures.ok

pub returns-in-Err-row_weight : goal.returns-in-Err-row_weight
returns-in-Err-row_weight c = λ places.
    inr (second_bad places (fields_of c.args.row.now) c.args.number c.in-Err-row_weight.fault row_number row_weight [] c.field_at.result.now c.field_at-2.result.now c.field_at.ensures c.field_at-2.ensures
    (c.in-Ok.of, c.in-Ok.ensures.ok) c.in-Err-row_weight.ensures.err)
