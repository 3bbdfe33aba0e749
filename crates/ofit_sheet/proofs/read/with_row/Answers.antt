use Rattle.std.proofs.Common.{ap, sym, ◌∙◌}
use Rattle.ofit_study.specs.Study.{names_of}
use Rattle.ofit_sheet.specs.Told.{Told}
use Rattle.ofit_sheet.proofs.ItemReadings.{told_more}
use Rattle.ofit_sheet.proofs.read.with_row.Goals as goal

pub returns-in-Ok-with_item : goal.returns-in-Ok-with_item
returns-in-Ok-with_item c = λ rows items f.
    let read = c.in-Ok.ensures rows items f in (
      c.in-Ok.item,
      record { open_yet = sym (ap (λ (t : Told). t.has_ended) f.told) ∙ c.if-draft.false; spells = read.0; within = read.1 },
      told_more (names_of c.args.study.now) c.args.sized rows items c.args.draft f c.in-Ok.item c.in-Ok-with_item.after read.0.1 c.in-Ok-with_item.ensures,
    )
