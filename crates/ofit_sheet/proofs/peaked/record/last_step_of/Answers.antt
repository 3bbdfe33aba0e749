use Rattle.csv.specs.Records.{fields_of}
use Rattle.ofit_study.specs.Study.{names_of}
use Rattle.ofit_sheet.proofs.PeakedFaults.{last_fault}
use Rattle.ofit_sheet.proofs.peaked.record.last_step_of.Goals as goal

pub returns-in-Err : goal.returns-in-Err
returns-in-Err c =
    last_fault (names_of c.args.study.now) (fields_of c.args.row.now) c.args.place c.group_name.result.now c.in-Some.text.now c.group_name.ensures c.in-Some.size.now c.in-Some.ensures (c.is.ensures.0 c.if-not-is.false) c.in-Err.fault c.in-Err.ensures
