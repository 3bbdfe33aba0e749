use Rattle.std.proofs.Common.{refl, ◌∙◌}
use Rattle.csv.specs.Records.{fields_of}
use Rattle.ofit_records.proofs.Coming.{one_more, no_more, none_behind_failure, same_found, stopped}
use Rattle.ofit_records.proofs.reader.read_one.Goals as goal
use Rattle.ofit_records.proofs.reader.read_one.Goals.{in-Ok, in-Err}

pub returns-clause-more : goal.returns-clause-more
returns-clause-more c = elim c.match-read_byte_record.branch [
  | in-Ok w ↦ rw w.result-is (λ e. one_more c.args.reader.now c.read_byte_record.new.self w.in-Ok.found (fields_of c.read_byte_record.new.row) c.requires (λ f. same_found _ _ (w.in-Ok.ensures.failed f)) w.in-Ok.ensures.reads e)
  | in-Err w ↦ rw w.result-is tt
]

pub returns-clause-end : goal.returns-clause-end
returns-clause-end c = elim c.match-read_byte_record.branch [
  | in-Ok w ↦ rw w.result-is (λ e. no_more c.args.reader.now c.read_byte_record.new.self w.in-Ok.found (fields_of c.read_byte_record.new.row) c.requires w.in-Ok.ensures.reads e)
  | in-Err w ↦ rw w.result-is tt
]

pub returns-clause-failed : goal.returns-clause-failed
returns-clause-failed c = elim c.match-read_byte_record.branch [
  | in-Ok w ↦ rw w.result-is tt
  | in-Err w ↦ rw w.result-is (none_behind_failure c.read_byte_record.new.self (w.in-Err.ensures.fails ∙ stopped c.args.reader.now c.read_byte_record.new.self _ c.read_byte_record.result c.requires c.read_byte_record.ensures.failed (rw w.in-Err.is refl) w.in-Err.ensures.why))
]
