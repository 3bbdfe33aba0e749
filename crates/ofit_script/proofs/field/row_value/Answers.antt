use Rattle.ofit_script.proofs.field.row_value.Goals as goal

pub returns-in-Err-clause-err : goal.returns-in-Err-clause-err
returns-in-Err-clause-err c = (c.in-Err.why, c.value_fault.ensures, c.in-Err.ensures)
