use Rattle.std.proofs.Common.{◌≡◌, ◌∷◌, ℕ, List, subst}
use Rattle.csv.specs.Records.{fields_of}
use Rattle.ofit_records.specs.Records.{records_of}
use Rattle.ofit_script.specs.Reading.{IsReadSoFar}
use Rattle.ofit_script.proofs.NextRecord.{fault_told, one_more}
use Rattle.ofit_script.proofs.read.read_script.Goals as goal

pub loop-script-preserved : goal.loop-script-preserved
loop-script-preserved c =
    let places = c.args.settings.now.places in
    let records = records_of c.args.bytes.now in
    let fields = fields_of c.read_next.new.into in
    let next : c.loop-script.records ≡ fields ∷ c.read_next.new.self = c.in-Ok-true.ensures.more c.in-Ok-true.field-0-test in
    let so = subst (λ (left : List (List (List ℕ))). IsReadSoFar places records left c.loop-script.script) next c.loop-script.invariant in
    one_more places records c.read_next.new.self fields c.loop-script.script so c.in-Ok-next_line.line c.add.new.self c.in-Ok-next_line.ensures.ok c.in-Ok-next_line.ensures.kept c.in_default.ensures.ok

pub returns-in-Err-next_line : goal.returns-in-Err-next_line
returns-in-Err-next_line c =
    let places = c.args.settings.now.places in
    let records = records_of c.args.bytes.now in
    let fields = fields_of c.read_next.new.into in
    let next : c.loop-script.records ≡ fields ∷ c.read_next.new.self = c.in-Ok-true.ensures.more c.in-Ok-true.field-0-test in
    let so = subst (λ (left : List (List (List ℕ))). IsReadSoFar places records left c.loop-script.script) next c.loop-script.invariant in
    fault_told places records c.read_next.new.self fields c.loop-script.script so c.in-Err-next_line.fault c.in-Err-next_line.ensures.err
