use Rattle.std.proofs.Common.{◌≡◌, ◌++◌}
use Rattle.std.proofs.lemmas.Result.{IfOk-weaker}
use Rattle.std.specs.Prelude.{codes}
use Rattle.ofit_answer.specs.VerdictText.{pair_fault}
use Rattle.ofit_answer.proofs.NameLines.{low_inside, high_inside, names_joined}
use Rattle.ofit_answer.proofs.verdict.pair_line.Goals as goal

pub group_name-requires : goal.group_name-requires
group_name-requires c = low_inside c.args.study.now c.pair_count-count.ensures.valid c.args.index c.requires c.pair_at-low.result c.pair_at-low.ensures

pub group_name-requires-2 : goal.group_name-requires-2
group_name-requires-2 c = high_inside c.args.study.now c.pair_count-count.ensures.valid c.args.index c.requires c.pair_at-low.result c.pair_at-low.ensures

pub returns : goal.returns
returns c =
    IfOk-weaker c.joined.result (λ text. text.items ≡ codes "fails order " ++ (c.group_name.result.now ++ (codes " " ++ (c.group_name-2.result.now ++ codes "\n"))))
    (λ text. text.items ≡ pair_fault c.args.study.now c.args.index)
    (λ text e. names_joined c.args.study.now c.pair_count-count.ensures.valid c.args.index c.requires c.pair_at-low.result c.pair_at-low.ensures
    c.group_name.result.now c.group_name-2.result.now text.items c.group_name.ensures c.group_name-2.ensures e) c.joined.ensures
