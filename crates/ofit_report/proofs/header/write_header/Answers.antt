use Rattle.std.proofs.Common.{◌≡◌, ◌++◌, ℕ, List, [], ◌∷◌, codes, decimal, ap, ◌∙◌}
use Rattle.std.proofs.lemmas.Result.{on_ok_weaker}
use Rattle.ofit_records.specs.Written.{record_text}
use Rattle.ofit_study.specs.FieldText.{bound_text, dash}
use Rattle.ofit_study.specs.Loss.{loss_text}
use Rattle.ofit_report.proofs.header.write_header.Goals as goal

pub returns : goal.returns
returns c =
    let settings = c.args.settings.now in
    let ends : List (List ℕ) = dash ∷ dash ∷ [] in
    let places : c.as_bytes.result.now ≡ decimal settings.places = c.as_bytes.ensures.value ∙ c.format.ensures.text in
    let fields : c.name.result.now ∷ c.as_bytes.result.now ∷ c.bound_name.result.now ∷ c.bound_name-2.result.now ∷ ends ≡ loss_text settings.loss ∷ decimal settings.places ∷ bound_text settings.lo ∷ bound_text settings.hi ∷ ends =
    ap (λ (t : List ℕ). t ∷ c.as_bytes.result.now ∷ c.bound_name.result.now ∷ c.bound_name-2.result.now ∷ ends) c.name.ensures
    ∙ ap (λ (t : List ℕ). loss_text settings.loss ∷ t ∷ c.bound_name.result.now ∷ c.bound_name-2.result.now ∷ ends) places
    ∙ ap (λ (t : List ℕ). loss_text settings.loss ∷ decimal settings.places ∷ t ∷ c.bound_name-2.result.now ∷ ends) c.bound_name.ensures
    ∙ ap (λ (t : List ℕ). loss_text settings.loss ∷ decimal settings.places ∷ bound_text settings.lo ∷ t ∷ ends) c.bound_name-2.ensures in
    on_ok_weaker c.add_record.result (λ e. e ∙ ap (λ (t : List (List ℕ)). c.args.writer.now ++ record_text (codes "ofit-report" ∷ codes "1" ∷ t)) fields) c.add_record.ensures
