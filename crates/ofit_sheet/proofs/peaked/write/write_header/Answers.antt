use Rattle.std.proofs.Common.{◌≡◌, ◌++◌, ◌∷◌, [], ℕ, List, ap, ◌∙◌, decimal}
use Rattle.std.specs.Prelude.{codes}
use Rattle.std.proofs.lemmas.Result.{on_ok_weaker}
use Rattle.ofit_records.specs.Written.{record_text}
use Rattle.ofit_study.specs.declared.loss.LossKind.TheVariants.{Median}
use Rattle.ofit_study.specs.Loss.{loss_text}
use Rattle.ofit_sheet.proofs.peaked.write.write_header.Goals as goal

pub returns : goal.returns
returns c =
    let text : c.as_bytes.result.now ≡ decimal c.args.places = c.as_bytes.ensures.value ∙ c.format.ensures.text in
    on_ok_weaker c.add_record.result
    (λ e. e
    ∙ ap (λ (t : List ℕ). c.args.writer.now ++ record_text (codes "ofit-peaked" ∷ codes "1" ∷ t ∷ c.as_bytes.result.now ∷ [])) c.name.ensures
    ∙ ap (λ (t : List ℕ). c.args.writer.now ++ record_text (codes "ofit-peaked" ∷ codes "1" ∷ loss_text Median ∷ t ∷ [])) text) c.add_record.ensures
