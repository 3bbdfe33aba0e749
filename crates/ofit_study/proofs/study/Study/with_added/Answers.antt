use Rattle.std.proofs.Common.{◌+◌, ◌≡◌, ◌≤◌, ◌^◌, ◌++◌, ◌∷◌, ℤ, refl, sym, subst, rules, take, drop, FitsSigned, w64, to_z, of_z}
use Rattle.std.proofs.lemmas.Int.{to_z-of_z}
use Rattle.std.proofs.lemmas.Result.{IfOk-weaker}
use Rattle.std.specs.Prelude.{unsigned_abs}
use Rattle.ofit_study.specs.declared.edit.Edit.TheVariants.{Add}
use Rattle.ofit_study.specs.Study.{Observation, GainsRow}
use Rattle.ofit_study.specs.Added.{observation}
use Rattle.ofit_study.specs.Edited.{IsAfter}
use Rattle.ofit_study.proofs.Edits.{added, gap_valid, new_row}
use Rattle.ofit_study.proofs.Gaps.{gap_inside}
use Rattle.ofit_study.proofs.study.Study.with_added.Goals as goal

pub with_row_at-requires-clause-valid : goal.with_row_at-requires-clause-valid
with_row_at-requires-clause-valid c =
    let s = c.args.self.now in
    let v = c.keeps_limits.ensures.valid in
    let place = c.first_gap-index.result in
    let fits : FitsSigned w64 c.args.value = search rules in
    let value_is : to_z w64 (of_z w64 c.args.value) ≡ c.args.value = simp to_z-of_z refl in
    let r : Observation = observation c.args.name.now (record { number = place + 1; value = to_z w64 (of_z w64 c.args.value); weight = c.args.weight }) in
    gap_valid s v place c.first_gap-index.ensures r refl
    (new_row s place r (gap_inside s v place c.first_gap-index.ensures) c.requires.accepted.few refl c.requires.name (subst (λ (z : ℤ). unsigned_abs z ≤ 10 ^ 9) (sym value_is) c.requires.value) c.requires.weight.0)
    c.requires.accepted

pub returns : goal.returns
returns c =
    let s = c.args.self.now in
    let place = c.first_gap-index.result in
    let fits : FitsSigned w64 c.args.value = search rules in
    let value_is : to_z w64 (of_z w64 c.args.value) ≡ c.args.value = simp to_z-of_z refl in
    let r : Observation = observation c.args.name.now (record { number = place + 1; value = to_z w64 (of_z w64 c.args.value); weight = c.args.weight }) in
    IfOk-weaker c.with_row_at.result (λ t. t ≡ record s { rows = take place s.rows ++ r ∷ drop place s.rows }) (IsAfter s (Add c.args.name.now c.args.value c.args.weight))
    (λ t e. subst (λ (z : ℤ). GainsRow s c.args.name.now z c.args.weight t) value_is (added s c.keeps_limits.ensures.valid place c.first_gap-index.ensures r refl c.requires.accepted t e).1) c.with_row_at.ensures
