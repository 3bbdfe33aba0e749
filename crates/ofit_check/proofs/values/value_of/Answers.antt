use Rattle.ofit_sheet.specs.Parts.{entry_of}
use Rattle.ofit_check.proofs.Reading.{value_inside, value_is}
use Rattle.ofit_check.proofs.values.value_of.Goals as goal

pub value_at-value-requires : goal.value_at-value-requires
value_at-value-requires c = value_inside c.args.study.now c.args.sheet.now c.requires.values c.args.place c.requires.place

pub returns-clause-value : goal.returns-clause-value
returns-clause-value c = value_is c.args.study.now c.args.sheet.now c.requires.values c.args.place (entry_of c.value_at-value.result) c.requires.place c.value_at-value.ensures.value
