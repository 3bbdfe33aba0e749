use Rattle.std.proofs.Common.{◌≡◌, ◌+◌, ◌≤◌, ◌^◌, ◌∙◌, ◌++◌, ◌∷◌, [], ℤ, List, refl, sym, subst, rules, take, drop, FitsSigned, w64, to_z, of_z}
use Rattle.std.proofs.lemmas.Int.{to_z-of_z}
use Rattle.std.specs.Prelude.{unsigned_abs, Result, Ok, Err, OnOk}
use Rattle.ofit_study.specs.Study.{Observation, IsValid}
use Rattle.ofit_study.specs.Added.{observation}
use Rattle.ofit_study.proofs.Edits.{at_end, gained, gap_valid, new_row}
use Rattle.ofit_study.proofs.Gaps.{gap_inside}
use Rattle.ofit_study.proofs.study.Study.add_row.Goals as goal
use Rattle.ofit_study.proofs.study.Study.add_row.Goals.{then-index-row_count, else-index-row_count}

at_ok : {T E P : Type 0} (r : Result T E) (t : T) → r ≡ Ok t → OnOk r P → P
at_ok (Ok s) t e h = h
at_ok (Err x) t e h = cc

pub push_at-added-requires-clause-valid : goal.push_at-added-requires-clause-valid
push_at-added-requires-clause-valid c =
    let s = c.args.self.now in
    let v = c.row_count.ensures.valid in
    let place = c.first_gap-index.result in
    let fits : FitsSigned w64 c.args.value = search rules in
    let value_is : to_z w64 (of_z w64 c.args.value) ≡ c.args.value = simp to_z-of_z refl in
    let r : Observation = observation c.args.name.now (record { number = place + 1; value = to_z w64 (of_z w64 c.args.value); weight = c.args.weight }) in
    subst (λ (rows : List Observation). IsValid (record s { rows = rows })) (at_end s.rows place r (c.if-index-row_count.true ∙ c.row_count.ensures.count))
    (gap_valid s v place c.first_gap-index.ensures r refl
    (new_row s place r (gap_inside s v place c.first_gap-index.ensures) c.in-Ok.ensures.taken.few refl c.requires.name (subst (λ (z : ℤ). unsigned_abs z ≤ 10 ^ 9) (sym value_is) c.requires.value) c.requires.weight.0)
    c.in-Ok.ensures.taken)

pub insert-added-requires-clause-valid : goal.insert-added-requires-clause-valid
insert-added-requires-clause-valid c =
    let s = c.args.self.now in
    let v = c.row_count.ensures.valid in
    let place = c.first_gap-index.result in
    let fits : FitsSigned w64 c.args.value = search rules in
    let value_is : to_z w64 (of_z w64 c.args.value) ≡ c.args.value = simp to_z-of_z refl in
    let r : Observation = observation c.args.name.now (record { number = place + 1; value = to_z w64 (of_z w64 c.args.value); weight = c.args.weight }) in
    gap_valid s v place c.first_gap-index.ensures r refl
    (new_row s place r (gap_inside s v place c.first_gap-index.ensures) c.in-Ok.ensures.taken.few refl c.requires.name (subst (λ (z : ℤ). unsigned_abs z ≤ 10 ^ 9) (sym value_is) c.requires.value) c.requires.weight.0)
    c.in-Ok.ensures.taken

pub returns-in-Ok-added-clause-added : goal.returns-in-Ok-added-clause-added
returns-in-Ok-added-clause-added c =
    let s = c.args.self.now in
    let v = c.row_count.ensures.valid in
    let place = c.first_gap-index.result in
    let fits : FitsSigned w64 c.args.value = search rules in
    let value_is : to_z w64 (of_z w64 c.args.value) ≡ c.args.value = simp to_z-of_z refl in
    let r : Observation = observation c.args.name.now (record { number = place + 1; value = to_z w64 (of_z w64 c.args.value); weight = c.args.weight }) in
    elim c.if-index-row_count.branch [
      | then-index-row_count w ↦ gained s v place c.first_gap-index.ensures r refl c.if-index-row_count.self (s.rows ++ r ∷ []) (w.self-is ∙ at_ok _ _ (sym w.added-is ∙ c.in-Ok-added.is) w.push_at-added.ensures.ok) (sym (at_end s.rows place r (w.if-index-row_count.true ∙ c.row_count.ensures.count))) c.args.value value_is
      | else-index-row_count w ↦ gained s v place c.first_gap-index.ensures r refl c.if-index-row_count.self (take place s.rows ++ r ∷ drop place s.rows) (w.self-is ∙ at_ok _ _ (sym w.added-is ∙ c.in-Ok-added.is) w.insert-added.ensures.ok) refl c.args.value value_is
    ]
