use Rattle.std.proofs.Common.{◌∙◌, rules}
use Rattle.std.proofs.lemmas.Int.{to_z-of_z}
use Rattle.std.specs.Int.{w128}
use Rattle.std.specs.Prelude.{pos}
use Rattle.ofit_check.proofs.Comparing.{tested_as, over_read}
use Rattle.ofit_check.proofs.values.is_at_most.Goals as goal

pub returns-in-Some : goal.returns-in-Some
returns-in-Some c =
    rw c.in-Some.is (
    tested_as _ _ _ _
    (to_z-of_z w128 c.num.result (search rules) ∙ c.num.ensures.value)
    (over_read c.in-Some.hi (pos c.args.value.now.den) c.bound_over.result (search rules) (search rules) c.bound_over.ensures)
    )
