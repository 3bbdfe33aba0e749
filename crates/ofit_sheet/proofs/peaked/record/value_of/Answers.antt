use Rattle.csv.specs.Records.{fields_of}
use Rattle.ofit_study.specs.Study.{names_of}
use Rattle.ofit_sheet.proofs.PeakedFaults.{value_fault}
use Rattle.ofit_sheet.proofs.peaked.record.value_of.Goals as goal

pub returns-in-Err : goal.returns-in-Err
returns-in-Err c =
    value_fault (names_of c.args.study.now) (fields_of c.args.row.now) c.args.place c.group_name.result.now c.in-Some.text.now c.group_name.ensures c.in-Some.last.now c.in-Some.ensures (c.is.ensures.0 c.if-not-is.false) c.in-Err.fault c.in-Err.ensures
