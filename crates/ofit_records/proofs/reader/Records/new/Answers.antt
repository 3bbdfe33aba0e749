use Rattle.std.proofs.Common.{◌∙◌, ap}
use Rattle.ofit_records.specs.Coming.{coming}
use Rattle.ofit_records.proofs.Coming.{all_to_come, count_records}
use Rattle.ofit_records.proofs.reader.Records.new.Goals as goal

pub returns-clause-records : goal.returns-clause-records
returns-clause-records c =
    ap coming c.in_ok-new.ensures.ok ∙ all_to_come c.from_reader-reader.result c.after_marks.result.now c.args.bytes.now c.from_reader-reader.ensures.state c.from_reader-reader.ensures.source c.after_marks.ensures

pub returns-clause-count : goal.returns-clause-count
returns-clause-count c = rw (returns-clause-records c) (count_records c.args.bytes.now)
