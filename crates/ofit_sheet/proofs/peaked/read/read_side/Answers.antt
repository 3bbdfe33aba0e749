use Rattle.std.proofs.Common.{◌∷◌, [], ℕ, suc, ℤ, List, map, length, sym, subst}
use Rattle.ofit_study.specs.Study.{names_of}
use Rattle.ofit_sheet.specs.Peaked.{IsSide}
use Rattle.ofit_sheet.specs.PeakedText.{side_start}
use Rattle.ofit_sheet.specs.Slots.{side_slot, side_slots, step_slots, steps_before_last}
use Rattle.ofit_sheet.specs.PeakedRead.{side_item, side_items, step_told}
use Rattle.ofit_sheet.specs.PeakedSteps.{Takes, PartFault}
use Rattle.ofit_sheet.proofs.PeakedParts.{passed_on, fault_front, fault_behind, takes_then}
use Rattle.ofit_sheet.proofs.PeakedSides.{steps_at, within_groups}
use Rattle.ofit_sheet.proofs.peaked.read.read_side.Goals as goal

pub returns-in_err-take_side_header-clause-read : goal.returns-in_err-take_side_header-clause-read
returns-in_err-take_side_header-clause-read c =
    let names = names_of c.args.study.now in
    let n = length names in
    passed_on names (side_slots c.args.slope n c.args.index) _ c.args.cursor.now.number c.take_side_header.new.cursor.number c.args.cursor.now.records c.take_side_header.new.cursor.records c.from_residual.result c.in_err-take_side_header.field-0.0
    c.from_residual.ensures.0 c.from_residual.ensures.1
    (fault_front names c.in_err-take_side_header.field-0.0 (side_slot c.args.slope c.args.index ∷ []) (step_slots (side_start c.args.slope c.args.index) (steps_before_last c.args.slope n c.args.index)) c.args.cursor.now.number c.args.cursor.now.records
    c.in_err-take_side_header.ensures)

pub read_steps-requires-clause-within : goal.read_steps-requires-clause-within
read_steps-requires-clause-within c =
    let names = names_of c.args.study.now in
    within_groups c.args.slope (length names) c.args.index c.start.result c.steps_before_last-count.result c.requires.index c.start.ensures (steps_at c.args.slope (length names) c.args.index _ _ c.steps_before_last-count.ensures c.group_count.ensures.count)

pub returns-in_err-steps-clause-read : goal.returns-in_err-steps-clause-read
returns-in_err-steps-clause-read c =
    let names = names_of c.args.study.now in
    let n = length names in
    let count = steps_at c.args.slope n c.args.index _ _ c.steps_before_last-count.ensures c.group_count.ensures.count in
    passed_on names (side_slots c.args.slope n c.args.index) _ c.args.cursor.now.number c.read_steps.new.cursor.number c.args.cursor.now.records c.read_steps.new.cursor.records c.from_residual-in_err-steps.result c.in_err-steps.field-0.0
    c.from_residual-in_err-steps.ensures.0 c.from_residual-in_err-steps.ensures.1
    (fault_behind names c.in_err-steps.field-0.0 (side_slot c.args.slope c.args.index ∷ []) (step_slots (side_start c.args.slope c.args.index) (steps_before_last c.args.slope n c.args.index)) (side_item ∷ []) c.args.cursor.now.number c.take_side_header.new.cursor.number
    c.args.cursor.now.records c.take_side_header.new.cursor.records c.in_ok-take_side_header.ensures
    (subst (λ (k : ℕ). PartFault names (step_slots (side_start c.args.slope c.args.index) k) c.take_side_header.new.cursor.number c.take_side_header.new.cursor.records c.in_err-steps.field-0.0) count
    (subst (λ (k : ℕ). PartFault names (step_slots k c.steps_before_last-count.result) c.take_side_header.new.cursor.number c.take_side_header.new.cursor.records c.in_err-steps.field-0.0) c.start.ensures c.in_err-steps.ensures.read)))

pub returns-clause-read : goal.returns-clause-read
returns-clause-read c =
    let names = names_of c.args.study.now in
    let n = length names in
    let count = steps_at c.args.slope n c.args.index _ _ c.steps_before_last-count.ensures c.group_count.ensures.count in
    subst (λ (xs : List (ℤ × ℤ)). Takes names (side_slots c.args.slope n c.args.index) (side_items xs) c.args.cursor.now.number c.args.cursor.now.records c.read_steps.new.cursor.number c.read_steps.new.cursor.records) (sym c.make.ensures)
    (takes_then names (side_slot c.args.slope c.args.index ∷ []) (step_slots (side_start c.args.slope c.args.index) (steps_before_last c.args.slope n c.args.index)) (side_item ∷ []) (map step_told c.in_ok-steps.steps.items) c.args.cursor.now.number
    c.take_side_header.new.cursor.number c.read_steps.new.cursor.number c.args.cursor.now.records c.take_side_header.new.cursor.records c.read_steps.new.cursor.records c.in_ok-take_side_header.ensures
    (subst (λ (k : ℕ). Takes names (step_slots (side_start c.args.slope c.args.index) k) (map step_told c.in_ok-steps.steps.items) c.take_side_header.new.cursor.number c.take_side_header.new.cursor.records c.read_steps.new.cursor.number c.read_steps.new.cursor.records) count
    (subst (λ (k : ℕ). Takes names (step_slots k c.steps_before_last-count.result) (map step_told c.in_ok-steps.steps.items) c.take_side_header.new.cursor.number c.take_side_header.new.cursor.records c.read_steps.new.cursor.number c.read_steps.new.cursor.records) c.start.ensures
    c.in_ok-steps.ensures.read)))

pub returns-clause-side : goal.returns-clause-side
returns-clause-side c =
    let names = names_of c.args.study.now in
    let count = steps_at c.args.slope (length names) c.args.index _ _ c.steps_before_last-count.ensures c.group_count.ensures.count in
    subst (IsSide (suc (steps_before_last c.args.slope (length names) c.args.index))) (sym c.make.ensures) (subst (λ (k : ℕ). IsSide (suc k) c.in_ok-steps.steps.items) count c.in_ok-steps.ensures.side)
