use Rattle.std.proofs.Common.{◌≡◌, ◌++◌}
use Rattle.std.proofs.lemmas.Result.{IfOk-weaker}
use Rattle.std.specs.Prelude.{codes}
use Rattle.ofit_answer.specs.VerdictText.{group_fault}
use Rattle.ofit_answer.proofs.NameLines.{name_joined}
use Rattle.ofit_answer.proofs.verdict.group_line.Goals as goal

pub returns : goal.returns
returns c =
    IfOk-weaker c.joined.result (λ text. text.items ≡ codes "fails " ++ (c.as_bytes.result.now ++ (codes " " ++ (c.group_name.result.now ++ codes "\n"))))
    (λ text. text.items ≡ group_fault c.args.fault.now c.args.study.now c.args.place)
    (λ text e. name_joined c.args.fault.now c.args.study.now c.args.place c.as_bytes.result.now c.group_name.result.now text.items c.as_bytes.ensures.value c.group_name.ensures e) c.joined.ensures
