use Rattle.ofit_study.specs.Study.{names_of}
use Rattle.ofit_sheet.proofs.Faults.{value_fault}
use Rattle.ofit_sheet.proofs.value.read_value.Goals as goal

pub returns-in-Err : goal.returns-in-Err
returns-in-Err c = value_fault (names_of c.args.study.now) c.args.first.now c.args.second.now c.args.third.now c.args.least c.in-Some.place c.in-Err.fault c.in-Some.ensures.0 c.in-Some.ensures.1 c.in-Err.ensures
