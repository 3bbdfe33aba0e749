use Rattle.ofit_study.specs.Study.{names_of}
use Rattle.ofit_sheet.proofs.Faults.{flow_fault}
use Rattle.ofit_sheet.proofs.flow.read_flow.Goals as goal

pub returns-in-Err : goal.returns-in-Err
returns-in-Err c = flow_fault (names_of c.args.study.now) c.args.first.now c.args.second.now c.args.third.now c.in-Some.low c.in-Some-place_from.high c.in-Err.fault c.in-Some.ensures.0 c.in-Some-place_from.ensures.0 c.in-Err.ensures
