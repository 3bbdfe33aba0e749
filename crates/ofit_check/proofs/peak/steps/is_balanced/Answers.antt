use Rattle.std.proofs.Common.{◌≡◌, List, sym, subst, ◌∙◌, rules, FitsSigned, to_z, of_z}
use Rattle.std.proofs.lemmas.Int.{to_z-of_z}
use Rattle.std.specs.Int.{w64, w128}
use Rattle.std.specs.Prelude.{ℤ, IsTrue, ◌↔◌}
use Rattle.ofit_num.specs.declared.row.Row.{Row}
use Rattle.ofit_study.specs.Study.{groups_of}
use Rattle.ofit_sheet.specs.PeakVerdict.{value_at, IsInSpan}
use Rattle.ofit_check.specs.PeakSteps.{step_balance}
use Rattle.ofit_span.proofs.Fittable.{rows_fittable}
use Rattle.ofit_check.proofs.PeakSteps.{value_there, rows_there}
use Rattle.ofit_check.proofs.peak.steps.is_balanced.Goals as goal

pub is_in_span-requires : goal.is_in_span-requires
is_in_span-requires c = rows_fittable c.args.study.now c.keeps_limits.ensures.valid c.args.place c.rows_of.result.now c.rows_of.ensures

pub returns : goal.returns
returns c =
    let rows = c.rows_of.result.now in
    let side = c.args.side.now in
    let r = c.is_in_span.result in
    let fits_value : FitsSigned w64 c.step-value.result.0 = search rules in
    let fits_balance : FitsSigned w128 c.balance_of.result = search rules in
    let value : to_z w64 (of_z w64 c.step-value.result.0) ≡ value_at side c.args.index = to_z-of_z w64 c.step-value.result.0 fits_value ∙ sym (value_there side c.args.index c.step-value.result c.step-value.ensures) in
    let balance : to_z w128 (of_z w128 c.balance_of.result) ≡ step_balance c.args.slope side c.args.index = to_z-of_z w128 c.balance_of.result fits_balance ∙ c.balance_of.ensures in
    subst (λ (rs : List Row). IsTrue r ↔ IsInSpan rs (value_at side c.args.index) (step_balance c.args.slope side c.args.index)) (sym (rows_there (groups_of c.args.study.now) c.args.place rows c.rows_of.ensures))
    (subst (λ (z : ℤ). IsTrue r ↔ IsInSpan rows z (step_balance c.args.slope side c.args.index)) value
    (subst (λ (z : ℤ). IsTrue r ↔ IsInSpan rows (to_z w64 (of_z w64 c.step-value.result.0)) z) balance c.is_in_span.ensures))
