use Rattle.std.proofs.Common.{◌<◌, ◌+◌, length, subst, arith, rules, FitsSigned, to_z, of_z}
use Rattle.std.proofs.lemmas.Int.{to_z-of_z}
use Rattle.std.specs.Int.{w64}
use Rattle.std.specs.Prelude.{ℤ, IsTrue, ◌↔◌}
use Rattle.ofit_check.specs.PeakSteps.{AreInOrder}
use Rattle.ofit_check.proofs.PeakSteps.{order_told}
use Rattle.ofit_check.proofs.peak.steps.keeps_order.Goals as goal

pub returns : goal.returns
returns c =
    let value : FitsSigned w64 c.step.result.0 = search rules in
    let next : FitsSigned w64 c.step-2.result.0 = search rules in
    let r = c.is_in_order.result in
    let told : IsTrue r ↔ AreInOrder c.args.slope c.step.result.0 c.step-2.result.0 =
    subst (λ (z : ℤ). IsTrue r ↔ AreInOrder c.args.slope c.step.result.0 z) (to_z-of_z w64 c.step-2.result.0 next)
    (subst (λ (z : ℤ). IsTrue r ↔ AreInOrder c.args.slope z (to_z w64 (of_z w64 c.step-2.result.0))) (to_z-of_z w64 c.step.result.0 value) c.is_in_order.ensures) in
    let room : c.args.index + 1 < length c.args.side.now = omega (arith, c.requires.steps, c.requires.index, c.if-index-steps.false) in
    let so = order_told c.args.side.now c.args.index c.step.result c.step.ensures c.step-2.result c.step-2.ensures room c.args.slope in
    (λ t. so.0 (told.0 t), λ h. told.1 (so.1 h))
