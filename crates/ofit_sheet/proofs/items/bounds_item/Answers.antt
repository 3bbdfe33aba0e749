use Rattle.ofit_study.specs.Study.{names_of}
use Rattle.ofit_sheet.proofs.ItemReadings.{bounds_fault, none_counted}
use Rattle.ofit_sheet.proofs.items.bounds_item.Goals as goal

pub returns-in-Err : goal.returns-in-Err
returns-in-Err c = λ rows items f.
    bounds_fault (names_of c.args.study.now) c.args.sized items c.args.fields.now.first.now c.args.fields.now.second.now c.args.fields.now.third.now c.in-Err.fault
    (none_counted (names_of c.args.study.now) c.args.sized rows items c.args.draft.now f c.if-draft-ne0.false) c.in-Err.ensures
