use Rattle.std.proofs.Common.{◌≡◌, ℕ, List, [], ◌∷◌, ◌++◌, codes, decimal, ap, ◌∙◌}
use Rattle.std.proofs.lemmas.Result.{on_ok_weaker}
use Rattle.ofit_records.specs.Written.{record_text}
use Rattle.ofit_levels.proofs.text.write_header.Goals as goal

pub returns : goal.returns
returns c =
    let items : c.as_bytes.result.now ≡ decimal c.args.k = c.as_bytes.ensures.value ∙ c.format.ensures.text in
    let orderings : c.as_bytes-2.result.now ≡ decimal c.args.all = c.as_bytes-2.ensures.value ∙ c.format-2.ensures.text in
    let behind : c.as_bytes.result.now ∷ c.as_bytes-2.result.now ∷ [] ≡ decimal c.args.k ∷ decimal c.args.all ∷ [] =
    ap (λ (t : List ℕ). t ∷ c.as_bytes-2.result.now ∷ []) items ∙ ap (λ (t : List ℕ). decimal c.args.k ∷ t ∷ []) orderings in
    on_ok_weaker c.add_record.result (λ e. e ∙ ap (λ (t : List (List ℕ)). c.args.writer.now ++ record_text (codes "ofit-levels" ∷ codes "1" ∷ t)) behind) c.add_record.ensures
