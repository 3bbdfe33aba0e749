use Rattle.std.proofs.Common.{◌≡◌, ◌∷◌, [], ℕ, List, ap, ◌∙◌}
use Rattle.std.specs.Prelude.{codes}
use Rattle.csv.specs.Records.{fields_of}
use Rattle.ofit_study.specs.Study.{names_of}
use Rattle.ofit_study.specs.FieldText.{dash}
use Rattle.ofit_sheet.proofs.PeakedFaults.{peak_fault}
use Rattle.ofit_sheet.proofs.peaked.record.peak_at.Goals as goal

pub returns-in-Err : goal.returns-in-Err
returns-in-Err c =
    let first = c.in-Some.fields.first.now in
    let second = c.in-Some.fields.second.now in
    let spells : fields_of c.args.row.now ≡ codes "peak" ∷ first ∷ second ∷ dash ∷ [] =
    c.in-Some.ensures ∙ ap (λ (t : List ℕ). t ∷ first ∷ second ∷ c.in-Some.fields.third.now ∷ []) (c.is.ensures.0 c.if-not-is.false)
    ∙ ap (λ (t : List ℕ). codes "peak" ∷ first ∷ second ∷ t ∷ []) (c.is-else-not-is.ensures.0 c.if-not-is-2.false) in
    peak_fault (names_of c.args.study.now) (fields_of c.args.row.now) c.in-Some-place_of.place first second c.in-Some-place_of.ensures spells c.in-Err.fault c.in-Err.ensures
