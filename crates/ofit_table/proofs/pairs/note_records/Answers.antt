use Rattle.std.proofs.Common.{◌≡◌, ◌∷◌, List, ℕ, length, refl, ap, subst, arith}
use Rattle.std.proofs.lemmas.List.{length-append}
use Rattle.csv.specs.Records.{fields_of}
use Rattle.ofit_study.specs.Study.{names_of}
use Rattle.ofit_table.specs.Reading.{IsReadSoFar}
use Rattle.ofit_table.proofs.KnownPairs.{one_read, too_many_found}
use Rattle.ofit_table.proofs.pairs.note_records.Goals as goal

pub returns-in-Err-note_pair-clause-err : goal.returns-in-Err-note_pair-clause-err
returns-in-Err-note_pair-clause-err c =
    let fields = fields_of c.read_next.new.into in
    let names = names_of c.args.study.now in
    let next : c.loop-row.records ≡ fields ∷ c.read_next.new.self = c.in-Ok-true.ensures.more c.in-Ok-true.field-0-test in
    let so = subst (λ (left : List (List (List ℕ))). IsReadSoFar c.args.columns names c.args.records.now left c.loop-row.number c.loop-row.known) next c.loop-row.invariant in
    too_many_found c.args.columns c.args.study.now c.args.records.now c.read_next.new.self fields c.loop-row.number c.loop-row.known c.in-Ok.pair c.in-Err-note_pair.fault so c.in-Ok.ensures.ok c.in-Err-note_pair.ensures.err

pub loop-row-preserved : goal.loop-row-preserved
loop-row-preserved c =
    let fields = fields_of c.read_next.new.into in
    let names = names_of c.args.study.now in
    let next : c.loop-row.records ≡ fields ∷ c.read_next.new.self = c.in-Ok-true.ensures.more c.in-Ok-true.field-0-test in
    let so = subst (λ (left : List (List (List ℕ))). IsReadSoFar c.args.columns names c.args.records.now left c.loop-row.number c.loop-row.known) next c.loop-row.invariant in
    one_read c.args.columns names c.args.records.now c.read_next.new.self fields c.loop-row.number _ c.loop-row.known c.note_pair.new.known c.in-Ok.pair so c.in-Ok.ensures.ok c.in_default.ensures.ok c.in_default.ensures.few refl

pub overflow_add-number : goal.overflow_add-number
overflow_add-number c =
    let so = c.loop-row.invariant in
    omega (arith, so.next, ap length so.parted, length-append so.done c.loop-row.records, c.requires.few)
