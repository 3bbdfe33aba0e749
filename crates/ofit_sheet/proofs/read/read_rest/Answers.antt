use Rattle.std.proofs.Common.{◌≡◌, ◌+◌, ◌++◌, ◌∷◌, [], ℕ, List, length, refl, sym, ap, ◌∙◌, append_assoc, length-append, arith}
use Rattle.csv.specs.Records.{fields_of}
use Rattle.ofit_study.specs.Study.{names_of}
use Rattle.ofit_sheet.proofs.ItemReadings.{count_is}
use Rattle.ofit_sheet.proofs.Telling.{good-push, good-length}
use Rattle.ofit_sheet.proofs.read.read_rest.Goals as goal

pub loop-draft-init : goal.loop-draft-init
loop-draft-init c = record { done = []; items = []; parted = refl; follows = record { good = tt; told = c.empty_draft-draft.ensures } }

pub with_row-requires : goal.with_row-requires
with_row-requires c =
    let i = c.loop-draft.invariant in
    let count = count_is (names_of c.args.study.now) c.args.sized i.done i.items c.loop-draft.draft i.follows in
    let long = good-length (names_of c.args.study.now) c.args.sized [] i.done i.items i.follows.good in
    let whole : length c.args.records.now ≡ length (i.done ++ c.loop-draft.records) = ap length i.parted in
    let parts : length (i.done ++ c.loop-draft.records) ≡ length i.done + length c.loop-draft.records = length-append i.done c.loop-draft.records in
    let more : length c.loop-draft.records ≡ length (fields_of c.read_next.new.into ∷ c.read_next.new.self) = ap length (c.in-Ok-true.ensures.more c.in-Ok-true.field-0-test) in
    omega (arith, count, long, whole, parts, more, c.requires)

pub loop-draft-preserved : goal.loop-draft-preserved
loop-draft-preserved c =
    let i = c.loop-draft.invariant in
    let next = c.in-Ok.ensures i.done i.items i.follows in
    record {
      done = i.done ++ fields_of c.read_next.new.into ∷ [];
      items = i.items ++ next.0 ∷ [];
      parted = i.parted ∙ ap (λ (t : List (List (List ℕ))). i.done ++ t) (c.in-Ok-true.ensures.more c.in-Ok-true.field-0-test) ∙ sym (append_assoc i.done (fields_of c.read_next.new.into ∷ []) c.read_next.new.self);
      follows = record { good = good-push (names_of c.args.study.now) c.args.sized [] i.done i.items (fields_of c.read_next.new.into) next.0 i.follows.good next.1; told = next.2 };
    }
