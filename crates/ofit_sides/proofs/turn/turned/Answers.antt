use Rattle.std.proofs.Common.{◌≡◌, ◌∙◌, ◌-◌, ℤ, List, ◌∷◌, ◌++◌, [], length, sym, ap, ap₂, arith, rules, FitsSigned}
use Rattle.std.proofs.lemmas.Int.{to_z-of_z}
use Rattle.std.proofs.lemmas.List.{length_push}
use Rattle.std.proofs.lemmas.Option.{get_or_from_slice_get}
use Rattle.std.specs.Int.{w64, w128}
use Rattle.std.specs.Prelude.{pos}
use Rattle.ofit_sheet.specs.PeakVerdict.{value_at, amount_before}
use Rattle.ofit_sides.proofs.Turning.{step_more}
use Rattle.ofit_sides.proofs.turn.turned.Goals as goal

pub loop-index-preserved : goal.loop-index-preserved
loop-index-preserved c =
    let old = c.loop-index.steps.items in
    let k = c.loop-index.index in
    let side = c.args.side.now in
    let z = c.step-value.result.0 in
    let a = c.amount_before.result in
    let fits_z : FitsSigned w64 z = search rules in
    let fits_a : FitsSigned w128 a = search rules in
    let pushed : c.push.new.self.items ≡ old ++ (z, a) ∷ [] = c.in_ok-push.ensures.items ∙ ap₂ (λ (x y : ℤ). old ++ (x, y) ∷ []) (to_z-of_z w64 z fits_z) (to_z-of_z w128 a fits_a) in
    let value : z ≡ value_at side (c.args.count - 1 - k) = ap (λ (step : ℤ × ℤ). step.0) (sym (get_or_from_slice_get side (c.args.count - 1 - k) c.step-value.result (pos 0, pos 0) c.step-value.ensures)) in
    record {
      count = omega (arith, ap (λ (xs : List (ℤ × ℤ)). length xs) pushed, length_push old (z, a), c.loop-index.invariant.count);
      values = step_more (λ step. step.0) old c.push.new.self.items (z, a) k (λ j. value_at side (c.args.count - 1 - j)) c.loop-index.invariant.count pushed c.loop-index.invariant.values value;
      amounts = step_more (λ step. step.1) old c.push.new.self.items (z, a) k (λ j. amount_before side (c.args.count - 1 - j)) c.loop-index.invariant.count pushed c.loop-index.invariant.amounts c.amount_before.ensures;
    }
