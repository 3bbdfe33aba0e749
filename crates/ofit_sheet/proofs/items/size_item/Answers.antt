use Rattle.std.proofs.Common.{sym, ◌∙◌}
use Rattle.ofit_study.specs.Study.{names_of}
use Rattle.ofit_sheet.proofs.ItemReadings.{size_fault, count_is}
use Rattle.ofit_sheet.proofs.items.size_item.Goals as goal

pub returns-in-Err : goal.returns-in-Err
returns-in-Err c = λ rows items f.
    size_fault (names_of c.args.study.now) c.args.sized items c.args.fields.now.first.now c.args.fields.now.second.now c.args.fields.now.third.now c.in-Err.fault
    c.if-not-sized.false (sym (count_is (names_of c.args.study.now) c.args.sized rows items c.args.draft.now f) ∙ c.if-draft-ne1.false) c.in-Err.ensures
