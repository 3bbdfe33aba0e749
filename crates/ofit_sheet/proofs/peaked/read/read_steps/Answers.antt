use Rattle.std.proofs.Common.{◌≡◌, ◌++◌, ◌∷◌, [], ℤ, pos, List, map, ap, sym, subst, ◌+◌, ◌∙◌, rules, arith}
use Rattle.std.specs.Int.{w64}
use Rattle.std.proofs.lemmas.Int.{to_z-of_z}
use Rattle.std.specs.List.{range_with_len}
use mir.Val.{of_z, to_z, SFits}
use Rattle.ofit_study.specs.Study.{names_of}
use Rattle.ofit_sheet.specs.Slots.{step_slot, last_slot, step_slots}
use Rattle.ofit_sheet.specs.PeakedRead.{Item, step_item, step_told}
use Rattle.ofit_sheet.specs.PeakedSteps.{Takes}
use Rattle.ofit_sheet.proofs.PeakedParts.{passed_on, fault_front, fault_behind, takes_then, map_push}
use Rattle.ofit_sheet.proofs.PeakedAmounts.{side_made}
use Rattle.ofit_sheet.proofs.peaked.read.read_steps.Goals as goal

pub returns-in_err-steps-clause-read : goal.returns-in_err-steps-clause-read
returns-in_err-steps-clause-read c =
    let names = names_of c.args.study.now in
    passed_on names (step_slots c.args.start c.args.count) _ c.args.cursor.now.number c.read_first_steps.new.cursor.number c.args.cursor.now.records c.read_first_steps.new.cursor.records c.from_residual.result c.in_err-steps.field-0.0
    c.from_residual.ensures.0 c.from_residual.ensures.1
    (fault_front names c.in_err-steps.field-0.0 (map step_slot (range_with_len c.args.start c.args.count)) (last_slot (c.args.start + c.args.count) ∷ []) c.args.cursor.now.number c.args.cursor.now.records c.in_err-steps.ensures.read)

pub returns-in_err-value-clause-read : goal.returns-in_err-value-clause-read
returns-in_err-value-clause-read c =
    let names = names_of c.args.study.now in
    passed_on names (step_slots c.args.start c.args.count) _ c.args.cursor.now.number c.take_last_step.new.cursor.number c.args.cursor.now.records c.take_last_step.new.cursor.records c.from_residual-in_err-value.result c.in_err-value.field-0.0
    c.from_residual-in_err-value.ensures.0 c.from_residual-in_err-value.ensures.1
    (fault_behind names c.in_err-value.field-0.0 (map step_slot (range_with_len c.args.start c.args.count)) (last_slot (c.args.start + c.args.count) ∷ []) (map step_told c.in_ok-steps.steps.items) c.args.cursor.now.number c.read_first_steps.new.cursor.number
    c.args.cursor.now.records c.read_first_steps.new.cursor.records c.in_ok-steps.ensures.read c.in_err-value.ensures)

pub returns-in-Ok-clause-read : goal.returns-in-Ok-clause-read
returns-in-Ok-clause-read c =
    let names = names_of c.args.study.now in
    let first = c.in_ok-steps.steps.items in
    let fits : SFits w64 c.in_ok-value.value = search rules in
    let plain : to_z w64 (of_z w64 c.in_ok-value.value) ≡ c.in_ok-value.value = to_z-of_z w64 c.in_ok-value.value fits in
    let pushed : c.push.new.self.items ≡ first ++ (c.in_ok-value.value, pos 0) ∷ [] = c.in-Ok.ensures.items ∙ ap (λ (z : ℤ). first ++ (z, pos 0) ∷ []) plain in
    subst (λ (xs : List Item). Takes names (step_slots c.args.start c.args.count) xs c.args.cursor.now.number c.args.cursor.now.records c.take_last_step.new.cursor.number c.take_last_step.new.cursor.records)
    (sym (map_push step_told first c.push.new.self.items (c.in_ok-value.value, pos 0) pushed))
    (takes_then names (map step_slot (range_with_len c.args.start c.args.count)) (last_slot (c.args.start + c.args.count) ∷ []) (map step_told first) (step_item c.in_ok-value.value (pos 0) ∷ []) c.args.cursor.now.number c.read_first_steps.new.cursor.number c.take_last_step.new.cursor.number
    c.args.cursor.now.records c.read_first_steps.new.cursor.records c.take_last_step.new.cursor.records c.in_ok-steps.ensures.read c.in_ok-value.ensures)

pub returns-in-Ok-clause-side : goal.returns-in-Ok-clause-side
returns-in-Ok-clause-side c =
    let first = c.in_ok-steps.steps.items in
    let fits : SFits w64 c.in_ok-value.value = search rules in
    let plain : to_z w64 (of_z w64 c.in_ok-value.value) ≡ c.in_ok-value.value = to_z-of_z w64 c.in_ok-value.value fits in
    let pushed : c.push.new.self.items ≡ first ++ (c.in_ok-value.value, pos 0) ∷ [] = c.in-Ok.ensures.items ∙ ap (λ (z : ℤ). first ++ (z, pos 0) ∷ []) plain in
    side_made c.args.count first c.push.new.self.items c.in_ok-value.value (omega (arith, c.in_ok-steps.ensures.count, c.in_ok-steps.steps.ok.0)) c.in_ok-steps.ensures.amounts pushed
