use Rattle.std.proofs.Common.{◌≡◌, ◌++◌, ◌∙◌, List, [], ◌∷◌, ℕ, codes, decimal, ap}
use Rattle.std.proofs.lemmas.Result.{on_ok_weaker}
use Rattle.ofit_records.specs.Written.{record_text}
use Rattle.ofit_sample.specs.SampleText.{kind_text}
use Rattle.ofit_sample.proofs.summary.write_header.Goals as goal

pub returns : goal.returns
returns c =
    let job = c.args.job.now in
    let seed : c.as_bytes.result.now ≡ decimal job.seed = c.as_bytes.ensures.value ∙ c.format.ensures.text in
    let fields : c.as_bytes.result.now ∷ c.kind_name.result.now ∷ [] ≡ decimal job.seed ∷ kind_text job.kind ∷ [] =
    ap (λ (t : List ℕ). t ∷ c.kind_name.result.now ∷ []) seed ∙ ap (λ (t : List ℕ). decimal job.seed ∷ t ∷ []) c.kind_name.ensures in
    on_ok_weaker c.add_record.result (λ e. e ∙ ap (λ (t : List (List ℕ)). c.args.writer.now ++ record_text (codes "ofit-sample" ∷ codes "1" ∷ t)) fields) c.add_record.ensures
