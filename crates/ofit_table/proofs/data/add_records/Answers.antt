use Rattle.std.proofs.Common.{◌≡◌, ◌+◌, ◌∷◌, List, ℕ, ap, subst}
use Rattle.csv.specs.Records.{fields_of}
use Rattle.ofit_table.specs.Reading.{IsSoFar}
use Rattle.ofit_table.proofs.Found.{one_more, fault_found}
use Rattle.ofit_table.proofs.data.add_records.Goals as goal

pub loop-study-preserved : goal.loop-study-preserved
loop-study-preserved c =
    let fields = fields_of c.read_next.new.into in
    let next : c.loop-study.records ≡ fields ∷ c.read_next.new.self = c.in-Ok-true.ensures.more c.in-Ok-true.field-0-test in
    let so = subst (λ (left : List (List (List ℕ))). IsSoFar c.args.columns c.args.records.now left c.args.study.now.settings c.loop-study.study) next c.loop-study.invariant in
    one_more c.args.columns c.args.records.now c.read_next.new.self fields c.args.study.now.settings c.loop-study.study c.add_record.new.study so c.in_default.ensures.ok

pub returns-in-Err-add_record-clause-err : goal.returns-in-Err-add_record-clause-err
returns-in-Err-add_record-clause-err c =
    let fields = fields_of c.read_next.new.into in
    let next : c.loop-study.records ≡ fields ∷ c.read_next.new.self = c.in-Ok-true.ensures.more c.in-Ok-true.field-0-test in
    let so = subst (λ (left : List (List (List ℕ))). IsSoFar c.args.columns c.args.records.now left c.args.study.now.settings c.loop-study.study) next c.loop-study.invariant in
    fault_found c.args.columns c.args.records.now c.read_next.new.self fields c.args.study.now.settings c.loop-study.study (c.row_count-number.result + 2) c.in-Err-add_record.fault so c.row_count-number.ensures.valid (ap (λ (n : ℕ). n + 2) c.row_count-number.ensures.count) c.in-Err-add_record.ensures.err
