use Rattle.std.proofs.Common.{◌≡◌, ◌∙◌, ◌++◌}
use Rattle.std.proofs.lemmas.Result.{IfOk-weaker}
use Rattle.std.specs.Prelude.{codes}
use Rattle.ofit_answer.specs.PeakVerdictText.{side_fault}
use Rattle.ofit_answer.proofs.NameLines.{side_joined}
use Rattle.ofit_answer.proofs.peak_verdict.side_line.Goals as goal

pub returns : goal.returns
returns c =
    IfOk-weaker c.joined.result (λ text. text.items ≡ codes "fails " ++ (c.as_bytes.result.now ++ (codes " " ++ (c.as_bytes-2.result.now ++ (codes " " ++ (c.group_name.result.now ++ codes "\n"))))))
    (λ text. text.items ≡ side_fault c.args.slope.now c.args.number c.args.study.now c.args.place)
    (λ text e. side_joined c.args.slope.now c.args.number c.args.study.now c.args.place c.as_bytes.result.now c.as_bytes-2.result.now c.group_name.result.now text.items
    c.as_bytes.ensures.value (c.as_bytes-2.ensures.value ∙ c.format.ensures.text) c.group_name.ensures e) c.joined.ensures
