use Rattle.std.proofs.Common.{◌≡◌, ◌≤◌, ◌+◌, ◌^◌, ◌++◌, ◌∷◌, ◌∙◌, ℤ, refl, sym, subst, rules, take, drop, FitsSigned, w64, to_z, of_z}
use Rattle.std.proofs.lemmas.Int.{to_z-of_z}
use Rattle.std.proofs.lemmas.Option.{same_Some}
use Rattle.std.proofs.lemmas.Result.{IfOk-weaker}
use Rattle.std.specs.Prelude.{[], unsigned_abs}
use Rattle.ofit_num.specs.declared.row.Row.{Row}
use Rattle.ofit_study.specs.declared.edit.Edit.TheVariants.{Value}
use Rattle.ofit_study.specs.Added.{observation}
use Rattle.ofit_study.specs.Change.{IsChangeFor}
use Rattle.ofit_study.specs.Edited.{HasRow}
use Rattle.ofit_study.specs.Put.{PutsAt}
use Rattle.ofit_study.specs.Study.{Observation, IsValid}
use Rattle.ofit_study.proofs.Earlier.{row_put, sets_value}
use Rattle.ofit_study.proofs.Edits.{value_valid}
use Rattle.ofit_study.proofs.study.Study.value_change.Goals as goal

pub other_row-requires-clause-valid : goal.other_row-requires-clause-valid
other_row-requires-clause-valid c = λ r e.
    let s = c.args.self.now in
    let v = c.keeps_limits.ensures.valid in
    let index = c.in-Some.index in
    let fits : FitsSigned w64 c.args.value = search rules in
    let value_is : to_z w64 (of_z w64 c.args.value) ≡ c.args.value = simp to_z-of_z refl in
    let q : Observation = observation c.row_at.result.0.now c.row_at.result.1 in
    let at : HasRow s c.args.number = row_put s v index c.args.number c.in-Some.ensures q c.row_at.ensures in
    let row : Row = record { number = c.row_at.result.1.number; value = to_z w64 (of_z w64 c.args.value); weight = c.row_at.result.1.weight } in
    subst (λ (o : Observation). IsValid (record s { rows = take index s.rows ++ observation o.group row ∷ drop (index + 1) s.rows })) (same_Some q r (sym c.row_at.ensures ∙ e))
    (value_valid s v c.args.number at (to_z w64 (of_z w64 c.args.value)) (subst (λ (z : ℤ). unsigned_abs z ≤ 10 ^ 9) (sym value_is) c.requires.value))

pub returns : goal.returns
returns c =
    let s = c.args.self.now in
    let index = c.in-Some.index in
    let fits : FitsSigned w64 c.args.value = search rules in
    let value_is : to_z w64 (of_z w64 c.args.value) ≡ c.args.value = simp to_z-of_z refl in
    let row : Row = record { number = c.row_at.result.1.number; value = to_z w64 (of_z w64 c.args.value); weight = c.row_at.result.1.weight } in
    IfOk-weaker c.other_row.result (PutsAt s index (row ∷ [])) (IsChangeFor s (Value c.args.number c.args.value))
    (λ x p. sets_value s c.keeps_limits.ensures.valid index c.args.number c.in-Some.ensures c.row_at.result.1 c.row_at.result.0.now c.row_at.ensures c.args.value (to_z w64 (of_z w64 c.args.value)) value_is x p) c.other_row.ensures
