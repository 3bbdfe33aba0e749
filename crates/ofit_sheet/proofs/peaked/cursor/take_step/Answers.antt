use Rattle.std.proofs.Common.{◌∷◌, [], sym, subst}
use Rattle.csv.specs.Records.{fields_of}
use Rattle.ofit_study.specs.Study.{names_of}
use Rattle.ofit_sheet.specs.declared.fault.SheetFault.{SheetFault}
use Rattle.ofit_sheet.specs.Slots.{step_slot}
use Rattle.ofit_sheet.specs.PeakedRead.{step_item}
use Rattle.ofit_sheet.specs.PeakedSteps.{PartFault}
use Rattle.ofit_sheet.proofs.PeakedParts.{none_left, slot_takes, slot_fault, passed_on}
use Rattle.ofit_sheet.proofs.peaked.cursor.take_step.Goals as goal

pub returns-in_err-advance : goal.returns-in_err-advance
returns-in_err-advance c =
    passed_on (names_of c.args.study.now) (step_slot c.args.place ∷ []) (λ s. step_item s.0 s.1 ∷ []) c.args.cursor.now.number c.advance.new.cursor.number c.args.cursor.now.records c.advance.new.cursor.records c.from_residual.result c.in_err-advance.field-0.0
    c.from_residual.ensures.0 c.from_residual.ensures.1
    (none_left (names_of c.args.study.now) (step_slot c.args.place) c.args.cursor.now.number c.advance.new.cursor.number c.args.cursor.now.records c.advance.new.cursor.records (fields_of c.advance.new.cursor.row) c.in_err-advance.field-0.0 c.in_err-advance.ensures)

pub returns-in-Ok : goal.returns-in-Ok
returns-in-Ok c =
    slot_takes (names_of c.args.study.now) (step_slot c.args.place) c.args.cursor.now.number c.advance.new.cursor.number c.args.cursor.now.records c.advance.new.cursor.records (fields_of c.advance.new.cursor.row) c.in_ok-advance.ensures (step_item c.in-Ok.step.0 c.in-Ok.step.1) c.in-Ok.ensures

pub returns-in-Err : goal.returns-in-Err
returns-in-Err c =
    subst (λ (f : SheetFault). PartFault (names_of c.args.study.now) (step_slot c.args.place ∷ []) c.args.cursor.now.number c.args.cursor.now.records f) (sym c.fault_at.ensures)
    (slot_fault (names_of c.args.study.now) (step_slot c.args.place) c.args.cursor.now.number c.advance.new.cursor.number c.args.cursor.now.records c.advance.new.cursor.records (fields_of c.advance.new.cursor.row) c.in_ok-advance.ensures c.in-Err.fault c.in-Err.ensures)
