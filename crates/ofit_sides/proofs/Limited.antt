-- Every step of all rises, and of all falls, is within the limits of what is printed.
use Rattle.std.proofs.Common.{◌≡◌, ℕ, suc, ◌-◌, List, [], subst, ap, ◌∙◌, arith, get_or}
use Rattle.std.proofs.lemmas.List.{get_or_default}
use Rattle.std.specs.Prelude.{ℤ, All}
use Rattle.ofit_num.specs.Problem.{Problem}
use Rattle.ofit_sheet.specs.Peaked.{IsStepInLimits}
use Rattle.ofit_sides.specs.Sides.{AreRises, AreFalls}

pub rises_limited : (s : Problem) (sides : List (List (ℤ × ℤ))) → AreRises s sides → All (λ side. All IsStepInLimits side) sides
rises_limited s sides are k d l =
    let same : suc k - 1 ≡ k = omega arith in
    subst (λ (side : List (ℤ × ℤ)). All IsStepInLimits side) (ap (λ (i : ℕ). get_or sides i []) same ∙ get_or_default sides k [] d l) (are.each (suc k) (omega arith) (omega (arith, l, are.count))).limits

pub falls_limited : (s : Problem) (sides : List (List (ℤ × ℤ))) → AreFalls s sides → All (λ side. All IsStepInLimits side) sides
falls_limited s sides are k d l = subst (λ (side : List (ℤ × ℤ)). All IsStepInLimits side) (get_or_default sides k [] d l) (are.each k (omega (arith, l, are.count))).limits
