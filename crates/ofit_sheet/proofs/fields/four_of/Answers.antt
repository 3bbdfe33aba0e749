use Rattle.std.proofs.Common.{sym, ◌∙◌}
use Rattle.csv.specs.Records.{fields_of}
use Rattle.ofit_sheet.proofs.FourFields.{four_fields}
use Rattle.ofit_sheet.proofs.fields.four_of.Goals as goal

pub returns : goal.returns
returns c = four_fields (fields_of c.args.row.now) c.in-Some.kind.now c.in-Some-field_of.first.now c.in-Some-field_of-2.second.now c.in-Some-field_of-3.third.now (sym c.len.ensures ∙ c.if-len-ne4.false) c.in-Some.ensures.some c.in-Some-field_of.ensures.some c.in-Some-field_of-2.ensures.some c.in-Some-field_of-3.ensures.some
