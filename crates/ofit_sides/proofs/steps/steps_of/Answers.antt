use Rattle.std.proofs.Common.{◌≡◌, ◌∙◌, ◌<◌, ℤ, List, ◌∷◌, ◌++◌, [], length, take, get_or, sym, ap, ap₂, arith, rules, FitsSigned}
use Rattle.std.proofs.lemmas.Int.{to_z-of_z}
use Rattle.std.proofs.lemmas.List.{take_all, take_more}
use Rattle.std.proofs.lemmas.Slice.Zip.{get_or-zip, length-zip}
use Rattle.std.specs.Int.{w64, w128}
use Rattle.std.specs.List.{zip}
use Rattle.std.specs.Prelude.{pos}
use Rattle.ofit_sides.proofs.steps.steps_of.Goals as goal

pub loop-index-preserved : goal.loop-index-preserved
loop-index-preserved c =
    let values = c.args.values.now in
    let amounts = c.args.amounts.now in
    let old = c.loop-index.steps.items in
    let i = c.loop-index.index in
    let z = get_or values i (pos 0) in
    let a = get_or amounts i (pos 0) in
    let fits_z : FitsSigned w64 z = search rules in
    let fits_a : FitsSigned w128 a = search rules in
    let in_values : i < length values = c.loop-index-test.true in
    let in_amounts : i < length amounts = omega (arith, c.loop-index-test.true, c.requires) in
    let pushed : c.push.new.self.items ≡ old ++ (z, a) ∷ [] = c.in_ok-push.ensures.items ∙ ap₂ (λ (x y : ℤ). old ++ (x, y) ∷ []) (to_z-of_z w64 z fits_z) (to_z-of_z w128 a fits_a) in
    let more = take_more (zip values amounts) i (pos 0, pos 0) (omega (arith, in_values, in_amounts, length-zip values amounts)) in
    pushed ∙ ap (λ (xs : List (ℤ × ℤ)). xs ++ (z, a) ∷ []) c.loop-index.invariant ∙ ap (λ (step : ℤ × ℤ). take i (zip values amounts) ++ step ∷ []) (sym (get_or-zip values amounts i (pos 0, pos 0) in_values in_amounts)) ∙ sym more

pub returns : goal.returns
returns c = c.loop-index.invariant ∙ take_all c.loop-index.index (zip c.args.values.now c.args.amounts.now) (omega (arith, length-zip c.args.values.now c.args.amounts.now, c.loop-index-test.false, c.requires))
