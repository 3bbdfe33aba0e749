use Rattle.std.proofs.Common.{◌≡◌, ◌⊎◌, ◌∙◌, arith, inl, inr}
use Rattle.std.specs.Prelude.{true, false}
use Rattle.ofit_num.proofs.Scaled.{rescaled, power_shift, once}
use Rattle.ofit_num.proofs.decimal.size_of.Goals as goal
use Rattle.ofit_num.proofs.decimal.size_of.Goals.{then-power, else-power}

pub returns-clause-too_fine : goal.returns-clause-too_fine
returns-clause-too_fine c = λ e n s.
    let fine = c.scaled.ensures.too_fine e in
    let raise : ((c.args.power.negative ≡ true) × (c.if-power.raise ≡ 0)) ⊎ ((c.args.power.negative ≡ false) × (c.if-power.raise ≡ c.args.power.size)) =
    elim c.if-power.branch [ then-power w ↦ inl (w.if-power.true, w.raise-is) | else-power w ↦ inr (w.if-power.false, w.raise-is) ] in
    fine.1 n (rescaled _ _ c.args.places n 0 _ _ s (power_shift c.args.power.negative c.args.power.size c.if-power.raise c.args.places _ 0 _ c.min-common.result raise (omega (arith, fine.0)) (omega (arith, fine.0))) ∙ once _)
