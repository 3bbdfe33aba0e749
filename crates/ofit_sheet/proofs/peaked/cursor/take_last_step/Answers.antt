use Rattle.std.proofs.Common.{◌≡◌, ◌∷◌, [], ℤ, pos, sym, subst, rules}
use Rattle.std.specs.Int.{w64}
use Rattle.std.proofs.lemmas.Int.{to_z-of_z}
use mir.Val.{of_z, to_z, SFits}
use Rattle.csv.specs.Records.{fields_of}
use Rattle.ofit_study.specs.Study.{names_of}
use Rattle.ofit_sheet.specs.declared.fault.SheetFault.{SheetFault}
use Rattle.ofit_sheet.specs.Slots.{last_slot}
use Rattle.ofit_sheet.specs.PeakedRead.{step_item}
use Rattle.ofit_sheet.specs.PeakedSteps.{Takes, PartFault}
use Rattle.ofit_sheet.proofs.PeakedParts.{none_left, slot_takes, slot_fault, passed_on}
use Rattle.ofit_sheet.proofs.peaked.cursor.take_last_step.Goals as goal

pub returns-in_err-advance : goal.returns-in_err-advance
returns-in_err-advance c =
    passed_on (names_of c.args.study.now) (last_slot c.args.place ∷ []) (λ v. step_item v (pos 0) ∷ []) c.args.cursor.now.number c.advance.new.cursor.number c.args.cursor.now.records c.advance.new.cursor.records c.from_residual.result c.in_err-advance.field-0.0
    c.from_residual.ensures.0 c.from_residual.ensures.1
    (none_left (names_of c.args.study.now) (last_slot c.args.place) c.args.cursor.now.number c.advance.new.cursor.number c.args.cursor.now.records c.advance.new.cursor.records (fields_of c.advance.new.cursor.row) c.in_err-advance.field-0.0 c.in_err-advance.ensures)

pub returns-in-Ok : goal.returns-in-Ok
returns-in-Ok c =
    let fits : SFits w64 c.in-Ok.value = search rules in
    let plain : to_z w64 (of_z w64 c.in-Ok.value) ≡ c.in-Ok.value = to_z-of_z w64 c.in-Ok.value fits in
    subst (λ (z : ℤ). Takes (names_of c.args.study.now) (last_slot c.args.place ∷ []) (step_item z (pos 0) ∷ []) c.args.cursor.now.number c.args.cursor.now.records c.advance.new.cursor.number c.advance.new.cursor.records) (sym plain)
    (slot_takes (names_of c.args.study.now) (last_slot c.args.place) c.args.cursor.now.number c.advance.new.cursor.number c.args.cursor.now.records c.advance.new.cursor.records (fields_of c.advance.new.cursor.row) c.in_ok-advance.ensures (step_item c.in-Ok.value (pos 0)) c.in-Ok.ensures)

pub returns-in-Err : goal.returns-in-Err
returns-in-Err c =
    subst (λ (f : SheetFault). PartFault (names_of c.args.study.now) (last_slot c.args.place ∷ []) c.args.cursor.now.number c.args.cursor.now.records f) (sym c.fault_at.ensures)
    (slot_fault (names_of c.args.study.now) (last_slot c.args.place) c.args.cursor.now.number c.advance.new.cursor.number c.args.cursor.now.records c.advance.new.cursor.records (fields_of c.advance.new.cursor.row) c.in_ok-advance.ensures c.in-Err.fault c.in-Err.ensures)
