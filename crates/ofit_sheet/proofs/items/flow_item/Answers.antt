use Rattle.std.proofs.Common.{◌≤◌, length, arith}
use Rattle.ofit_study.specs.Study.{names_of}
use Rattle.ofit_sheet.specs.Rules.{leading}
use Rattle.ofit_sheet.proofs.ItemReadings.{flow_fault, count_is}
use Rattle.ofit_sheet.proofs.items.flow_item.Goals as goal

pub returns-in-Err : goal.returns-in-Err
returns-in-Err c = λ rows items f.
    let count = count_is (names_of c.args.study.now) c.args.sized rows items c.args.draft.now f in
    let led : leading c.args.sized ≤ length items = omega (arith, count, c.leading_count.ensures, c.if-draft-leading_count.false) in
    flow_fault (names_of c.args.study.now) c.args.sized items c.args.fields.now.first.now c.args.fields.now.second.now c.args.fields.now.third.now c.in-Err.fault led c.in-Err.ensures
