use Rattle.csv.specs.Records.{fields_of}
use Rattle.ofit_records.proofs.FieldPlaces.{given_none, given_some}
use Rattle.ofit_records.proofs.fields.field_of.Goals as goal

pub returns-clause-none : goal.returns-clause-none
returns-clause-none c = given_none c.get.result (fields_of c.args.row.now) c.args.place c.get.ensures.value

pub returns-clause-some : goal.returns-clause-some
returns-clause-some c = given_some c.get.result (fields_of c.args.row.now) c.args.place c.get.ensures.value
