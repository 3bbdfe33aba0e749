use Rattle.std.proofs.Common.{◌≡◌, ◌≤◌, ◌+◌, ◌^◌, ◌++◌, ◌∷◌, ◌∙◌, ℤ, refl, sym, ap, subst, arith, rules, take, drop, FitsSigned, w64, to_z, of_z}
use Rattle.std.proofs.lemmas.Int.{to_z-of_z}
use Rattle.std.proofs.lemmas.Option.{same_Some}
use Rattle.std.proofs.lemmas.Result.{IfOk-weaker}
use Rattle.std.specs.Prelude.{[]}
use Rattle.ofit_num.specs.declared.row.Row.{Row}
use Rattle.ofit_study.specs.declared.edit.Edit.TheVariants.{Weight}
use Rattle.ofit_study.specs.Added.{observation}
use Rattle.ofit_study.specs.Change.{IsChangeFor}
use Rattle.ofit_study.specs.Edited.{HasRow, weight_with, with_value, with_weight}
use Rattle.ofit_study.specs.Put.{PutsAt}
use Rattle.ofit_study.specs.Study.{Observation, IsValid}
use Rattle.ofit_study.proofs.Earlier.{only_row, row_put, sets_weight}
use Rattle.ofit_study.proofs.Edits.{weight_moved, weight_valid}
use Rattle.ofit_study.proofs.study.Study.weight_change.Goals as goal

pub other_row-requires-clause-valid : goal.other_row-requires-clause-valid
other_row-requires-clause-valid c = λ r e.
    let s = c.args.self.now in
    let v = c.keeps_limits.ensures.valid in
    let index = c.in-Some.index in
    let fits : FitsSigned w64 c.row_at.result.1.value = search rules in
    let value_is : to_z w64 (of_z w64 c.row_at.result.1.value) ≡ c.row_at.result.1.value = simp to_z-of_z refl in
    let q : Observation = observation c.row_at.result.0.now c.row_at.result.1 in
    let at : HasRow s c.args.number = row_put s v index c.args.number c.in-Some.ensures q c.row_at.ensures in
    let row : Row = record { number = c.row_at.result.1.number; value = to_z w64 (of_z w64 c.row_at.result.1.value); weight = c.args.weight } in
    let light : weight_with at c.args.weight ≤ 10 ^ 10 = omega (
      arith,
      weight_moved s c.args.number at c.args.weight,
      weight_moved s c.args.number c.requires.accepted.0 c.args.weight,
      ap (λ (o : Observation). o.weight) (only_row s v c.args.number at c.requires.accepted.0),
      c.requires.accepted.1,
    ) in
    subst (λ (o : Observation). IsValid (record s { rows = take index s.rows ++ observation o.group row ∷ drop (index + 1) s.rows })) (same_Some q r (sym c.row_at.ensures ∙ e))
    (subst (λ (z : ℤ). IsValid (record s { rows = take index s.rows ++ with_value (with_weight q c.args.weight) z ∷ drop (index + 1) s.rows })) (sym value_is) (weight_valid s v c.args.number at c.args.weight c.requires.weight.0 light))

pub returns : goal.returns
returns c =
    let s = c.args.self.now in
    let index = c.in-Some.index in
    let fits : FitsSigned w64 c.row_at.result.1.value = search rules in
    let value_is : to_z w64 (of_z w64 c.row_at.result.1.value) ≡ c.row_at.result.1.value = simp to_z-of_z refl in
    let row : Row = record { number = c.row_at.result.1.number; value = to_z w64 (of_z w64 c.row_at.result.1.value); weight = c.args.weight } in
    IfOk-weaker c.other_row.result (PutsAt s index (row ∷ [])) (IsChangeFor s (Weight c.args.number c.args.weight))
    (λ x p. sets_weight s c.keeps_limits.ensures.valid index c.args.number c.in-Some.ensures c.row_at.result.1 c.row_at.result.0.now c.row_at.ensures c.args.weight (to_z w64 (of_z w64 c.row_at.result.1.value)) value_is x p) c.other_row.ensures
