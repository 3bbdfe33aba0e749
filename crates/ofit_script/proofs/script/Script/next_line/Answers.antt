use Rattle.std.proofs.Common.{◌+◌, ℕ, inr, ap, subst}
use Rattle.csv.specs.Records.{fields_of}
use Rattle.ofit_script.specs.Spelling.{RecordFault}
use Rattle.ofit_script.proofs.NextRecord.{fields_read_err, fields_read_kept, fields_read_ok}
use Rattle.ofit_script.proofs.script.Script.next_line.Goals as goal

pub next_kind-requires : goal.next_kind-requires
next_kind-requires c = ap (λ (n : ℕ). n + 1) c.count-number.ensures.count

pub returns-in-Ok-clause-ok : goal.returns-in-Ok-clause-ok
returns-in-Ok-clause-ok c = fields_read_ok c.args.places c.in-Ok.kind (fields_of c.args.row.now) (c.count-number.result + 1) c.line_of.result c.line_of.ensures

pub returns-in-Ok-clause-kept : goal.returns-in-Ok-clause-kept
returns-in-Ok-clause-kept c = fields_read_kept c.args.places c.in-Ok.kind (fields_of c.args.row.now) (c.count-number.result + 1) c.args.self.now c.line_of.result c.count-number.ensures.kept c.in-Ok.ensures.room c.line_of.ensures

pub returns-in-Ok-clause-err : goal.returns-in-Ok-clause-err
returns-in-Ok-clause-err c =
    fields_read_err c.args.places c.in-Ok.kind (fields_of c.args.row.now) (c.count-number.result + 1) c.args.self.now c.line_of.result (ap (λ (n : ℕ). n + 1) c.count-number.ensures.count) c.in-Ok.ensures.room c.in-Ok.ensures.shaped c.line_of.ensures

pub returns-in-Err-clause-err : goal.returns-in-Err-clause-err
returns-in-Err-clause-err c =
    inr (subst (λ (n : ℕ). RecordFault c.args.places c.args.self.now (fields_of c.args.row.now) (n + 1) c.in-Err.fault) c.count-number.ensures.count (c.in-Err.ensures.err c.args.places))
