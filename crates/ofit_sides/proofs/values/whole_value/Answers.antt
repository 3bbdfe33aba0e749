use Rattle.std.proofs.Common.{◌≡◌, ◌≤◌, ◌^◌, ℤ, sym, ap, subst, ◌∙◌, rules, FitsSigned, to_z, of_z}
use Rattle.std.proofs.lemmas.Int.{to_z-of_z}
use Rattle.std.specs.Int.{w64, w128}
use Rattle.std.specs.Prelude.{unsigned_abs}
use Rattle.ofit_num.specs.Fraction.{Fraction}
use Rattle.ofit_sides.specs.Values.{whole_fraction}
use Rattle.ofit_sides.proofs.Whole.{whole_is, small_fits}
use Rattle.ofit_sides.proofs.values.whole_value.Goals as goal

pub overflow_cast-result : goal.overflow_cast-result
overflow_cast-result c =
    let fits : FitsSigned w128 c.num.result = search rules in
    let plain : to_z w128 (of_z w128 c.num.result) ≡ c.requires.value =
    to_z-of_z w128 c.num.result fits ∙ c.num.ensures.value ∙ ap (λ (f : Fraction). f.num) (whole_is c.args.value.now c.den-den.ensures.lowest c.requires) in
    subst (FitsSigned w64) (sym plain) (small_fits c.requires.value c.requires.small)

pub returns-clause-same : goal.returns-clause-same
returns-clause-same c =
    let fits : FitsSigned w128 c.num.result = search rules in
    let whole = whole_is c.args.value.now c.den-den.ensures.lowest c.requires in
    let plain : to_z w128 (of_z w128 c.num.result) ≡ c.requires.value = to_z-of_z w128 c.num.result fits ∙ c.num.ensures.value ∙ ap (λ (f : Fraction). f.num) whole in
    let short : to_z w64 (of_z w64 c.requires.value) ≡ c.requires.value = to_z-of_z w64 c.requires.value (small_fits c.requires.value c.requires.small) in
    whole ∙ ap whole_fraction (sym (ap (λ (z : ℤ). to_z w64 (of_z w64 z)) plain ∙ short))

pub returns-clause-small : goal.returns-clause-small
returns-clause-small c =
    let fits : FitsSigned w128 c.num.result = search rules in
    let whole = whole_is c.args.value.now c.den-den.ensures.lowest c.requires in
    let plain : to_z w128 (of_z w128 c.num.result) ≡ c.requires.value = to_z-of_z w128 c.num.result fits ∙ c.num.ensures.value ∙ ap (λ (f : Fraction). f.num) whole in
    let short : to_z w64 (of_z w64 c.requires.value) ≡ c.requires.value = to_z-of_z w64 c.requires.value (small_fits c.requires.value c.requires.small) in
    subst (λ (z : ℤ). unsigned_abs z ≤ 10 ^ 9) (sym (ap (λ (z : ℤ). to_z w64 (of_z w64 z)) plain ∙ short)) c.requires.small
