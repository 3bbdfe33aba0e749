use Rattle.std.proofs.Common.{◌≡◌, ◌∷◌, ◌∙◌, List, ℕ, sym, subst}
use Rattle.std.specs.Prelude.{Ok}
use Rattle.csv.specs.Records.{fields_of}
use Rattle.ofit_records.specs.Records.{records_of}
use Rattle.ofit_study.specs.Study.{HasPairs}
use Rattle.ofit_table.specs.PairsRead.{order_table}
use Rattle.ofit_table.specs.TableRead.{TableRead}
use Rattle.ofit_table.proofs.KnownPairs.{known_inside, pairs_taken}
use Rattle.ofit_table.proofs.pairs.read_pairs.Goals as goal

pub with_pairs-requires-clause-places : goal.with_pairs-requires-clause-places
with_pairs-requires-clause-places c =
    rw c.as_slice.ensures (known_inside c.in-Ok-order_columns.columns c.args.study.now c.read_next.new.self c.in-Ok-read_known.known c.in-Ok-read_known.ensures)

pub returns-in-Ok-with_pairs : goal.returns-in-Ok-with_pairs
returns-in-Ok-with_pairs c =
    let h = c.in-Ok-read_known.ensures in
    let taken = subst (λ (t : List (ℕ × ℕ)). HasPairs c.args.study.now t c.in-Ok-with_pairs.after) c.as_slice.ensures c.in-Ok-with_pairs.ensures in
    let begins : records_of c.args.bytes.now ≡ fields_of c.read_next.new.into ∷ c.read_next.new.self = sym c.in-Ok.ensures.records ∙ c.in-Ok-true.ensures.more c.in-Ok-true.field-0-test in
    subst (λ (records : List (List (List ℕ))). TableRead (order_table c.args.study.now) records (Ok c.in-Ok-with_pairs.after)) (sym begins)
    (c.in-Ok-order_columns.columns, h.0, c.in-Ok-order_columns.ensures, record { each = h.1; known = c.in-Ok-read_known.known; distinct = h.2; few = h.3 }, pairs_taken c.args.study.now c.in-Ok-with_pairs.after h.0 c.in-Ok-read_known.known h.2 taken)
