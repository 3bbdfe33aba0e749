use Rattle.std.proofs.Common.{◌≡◌, ◌<◌, ◌+◌, ◌∙◌, length, false, sym, ap, subst, arith, rules, FitsSigned, to_z, of_z}
use Rattle.std.proofs.lemmas.Bool.{eqb-true, eq-eqb}
use Rattle.std.proofs.lemmas.Int.{to_z-of_z}
use Rattle.std.specs.Int.{w64, w128}
use Rattle.std.specs.Prelude.{ℤ, pos, ◌≤ℤ◌, ◌<ℤ◌, IsTrue}
use lib.Signed.{le_z}
use Rattle.ofit_check.proofs.Comparing.{tested, tested_above}
use Rattle.ofit_check.proofs.PeakSteps.{tight_without, tight_told}
use Rattle.ofit_check.proofs.peak.steps.joins_equal.Goals as goal

pub returns-then-amount-le0 : goal.returns-then-amount-le0
returns-then-amount-le0 c =
    let fits : FitsSigned w128 c.step-value.result.1 = search rules in
    let none : c.step-value.result.1 ≤ℤ pos 0 = (tested _ _).0 (subst (λ (z : ℤ). IsTrue (le_z z (pos 0))) (to_z-of_z w128 c.step-value.result.1 fits) c.if-amount-le0.true) in
    (λ t. tight_without c.args.side.now c.args.index c.step-value.result c.step-value.ensures none, λ h. c.if-amount-le0.true)

pub returns-else-amount-le0 : goal.returns-else-amount-le0
returns-else-amount-le0 c =
    let fits : FitsSigned w128 c.step-value.result.1 = search rules in
    let value : FitsSigned w64 c.step-value.result.0 = search rules in
    let next : FitsSigned w64 c.step.result.0 = search rules in
    let flows : pos 0 <ℤ c.step-value.result.1 = tested_above _ _ (subst (λ (z : ℤ). le_z z (pos 0) ≡ false) (to_z-of_z w128 c.step-value.result.1 fits) c.if-amount-le0.false) in
    let room : c.args.index + 1 < length c.args.side.now = omega (arith, c.requires.steps, c.requires.index, c.if-index-steps.false) in
    let so = tight_told c.args.side.now c.args.index c.step-value.result c.step-value.ensures c.step.result c.step.ensures room flows in
    (λ t. so.0 (sym (to_z-of_z w64 c.step-value.result.0 value) ∙ ap (to_z w64) (eqb-true _ _ t) ∙ to_z-of_z w64 c.step.result.0 next), λ h. eq-eqb _ _ (ap (of_z w64) (so.1 h)))
