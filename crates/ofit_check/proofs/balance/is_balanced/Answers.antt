use Rattle.std.proofs.Common.{◌≡◌, ◌∙◌, refl, rules, FitsSigned, to_z, of_z}
use Rattle.std.proofs.lemmas.Int.{to_z-of_z}
use Rattle.std.specs.Int.{w128}
use Rattle.std.specs.Prelude.{ℤ}
use Rattle.ofit_check.proofs.Passed.{balance_told}
use Rattle.ofit_check.proofs.balance.is_balanced.Goals as goal

-- a number of 128 bits comes back from its bits
kept : (z : ℤ) → FitsSigned w128 z → to_z w128 (of_z w128 z) ≡ z
kept z fits = simp to_z-of_z refl

pub returns : goal.returns
returns c =
    let fits : FitsSigned w128 c.balance_at.result = search rules in
    balance_told c.args.study.now c.args.sheet.now c.args.place c.holds.result c.span_of.result c.value_of-value.result (to_z w128 (of_z w128 c.balance_at.result)) c.span_of.ensures.span c.value_of-value.ensures.value
    (kept c.balance_at.result fits ∙ c.balance_at.ensures) c.holds.ensures
