use Rattle.ofit_study.proofs.FieldReads.{no_number}
use Rattle.ofit_study.proofs.field.number_in.Goals as goal

pub returns-in-Err : goal.returns-in-Err
returns-in-Err c = no_number c.args.text.now c.args.low c.args.high c.from.result c.in-Err.field-0 c.from.ensures c.in-Err.ensures.not_whole c.in-Err.ensures.too_large
