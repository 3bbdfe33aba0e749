use Rattle.std.proofs.Common.{◌≡◌, ◌≤◌, ◌^◌, ◌++◌, ◌∷◌, [], ℤ, sym, ap, subst, ◌∙◌, rules, FitsSigned, to_z, of_z}
use Rattle.std.proofs.lemmas.Int.{to_z-of_z}
use Rattle.std.proofs.lemmas.List.Elements.{All-append, All-cons, All-nil}
use Rattle.std.specs.Int.{w64}
use Rattle.std.specs.Prelude.{All, unsigned_abs}
use Rattle.ofit_sides.proofs.Whole.{of_row, one_whole, there}
use Rattle.ofit_sides.proofs.values.whole_values.Goals as goal

pub whole_value-requires : goal.whole_value-requires
whole_value-requires c = of_row c.args.values.now c.requires c.loop-value.value-index c.value-item.result (there c.args.values.now c.loop-value.value-index c.value-item.result c.loop-value-test.true c.value-item.is)

pub loop-value-preserved : goal.loop-value-preserved
loop-value-preserved c =
    let old = c.loop-value.whole.items in
    let z = c.whole_value.result in
    let fits : FitsSigned w64 z = search rules in
    let plain : to_z w64 (of_z w64 z) ≡ z = to_z-of_z w64 z fits in
    let pushed : c.push.new.self.items ≡ old ++ z ∷ [] = c.in_ok-push.ensures.items ∙ ap (λ (t : ℤ). old ++ t ∷ []) plain in
    record {
      same = one_whole c.args.values.now c.loop-value.value-index c.value-item.result old c.push.new.self.items z c.loop-value-test.true c.value-item.is c.whole_value.ensures.same c.loop-value.invariant.same pushed;
      small = subst (All (λ (t : ℤ). unsigned_abs t ≤ 10 ^ 9)) (sym pushed)
          (All-append (λ (t : ℤ). unsigned_abs t ≤ 10 ^ 9) old (z ∷ []) c.loop-value.invariant.small (All-cons (λ (t : ℤ). unsigned_abs t ≤ 10 ^ 9) z [] c.whole_value.ensures.small (All-nil (λ (t : ℤ). unsigned_abs t ≤ 10 ^ 9))));
    }
