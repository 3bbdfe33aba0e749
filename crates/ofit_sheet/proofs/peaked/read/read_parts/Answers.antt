use Rattle.std.proofs.Common.{◌∷◌, ◌++◌, [], map, length, sym, subst, arith}
use Rattle.std.specs.List.{flat_map}
use Rattle.ofit_study.specs.Study.{names_of}
use Rattle.ofit_sheet.specs.declared.peaked.slope.Slope.TheVariants.{Rise, Fall}
use Rattle.ofit_sheet.specs.Peaked.{Peaked, IsShaped}
use Rattle.ofit_sheet.specs.Slots.{peak_slot, end_slot, value_slots, sides_slots, slots}
use Rattle.ofit_sheet.specs.PeakedRead.{peak_item, value_item, end_item, side_items, items_of}
use Rattle.ofit_sheet.specs.PeakedSteps.{Takes}
use Rattle.ofit_sheet.proofs.PeakedParts.{passed_on, fault_front, fault_behind, takes_then}
use Rattle.ofit_sheet.proofs.PeakedSides.{shape_made, peak_so}
use Rattle.ofit_sheet.proofs.peaked.read.read_parts.Goals as goal

pub returns-in_err-peak-clause-read : goal.returns-in_err-peak-clause-read
returns-in_err-peak-clause-read c =
    let names = names_of c.args.study.now in
    let n = length names in
    passed_on names (slots n) _ c.args.cursor.now.number c.take_peak.new.cursor.number c.args.cursor.now.records c.take_peak.new.cursor.records c.from_residual.result c.in_err-peak.field-0.0 c.from_residual.ensures.0 c.from_residual.ensures.1
    (fault_front names c.in_err-peak.field-0.0 (peak_slot ∷ []) ((value_slots n) ++ ((sides_slots Rise n) ++ ((sides_slots Fall n) ++ (end_slot ∷ [])))) c.args.cursor.now.number c.args.cursor.now.records c.in_err-peak.ensures)

pub returns-in_err-values-clause-read : goal.returns-in_err-values-clause-read
returns-in_err-values-clause-read c =
    let names = names_of c.args.study.now in
    let n = length names in
    passed_on names (slots n) _ c.args.cursor.now.number c.read_values.new.cursor.number c.args.cursor.now.records c.read_values.new.cursor.records c.from_residual-in_err-values.result c.in_err-values.field-0.0 c.from_residual-in_err-values.ensures.0 c.from_residual-in_err-values.ensures.1
    (fault_behind names c.in_err-values.field-0.0 (peak_slot ∷ []) ((value_slots n) ++ ((sides_slots Rise n) ++ ((sides_slots Fall n) ++ (end_slot ∷ [])))) (peak_item c.in_ok-peak.peak c.in_ok-peak.cost ∷ []) c.args.cursor.now.number c.take_peak.new.cursor.number c.args.cursor.now.records c.take_peak.new.cursor.records c.in_ok-peak.ensures
    (fault_front names c.in_err-values.field-0.0 (value_slots n) ((sides_slots Rise n) ++ ((sides_slots Fall n) ++ (end_slot ∷ []))) c.take_peak.new.cursor.number c.take_peak.new.cursor.records c.in_err-values.ensures.read))

pub returns-in_err-rises-clause-read : goal.returns-in_err-rises-clause-read
returns-in_err-rises-clause-read c =
    let names = names_of c.args.study.now in
    let n = length names in
    passed_on names (slots n) _ c.args.cursor.now.number c.read_sides.new.cursor.number c.args.cursor.now.records c.read_sides.new.cursor.records c.from_residual-in_err-rises.result c.in_err-rises.field-0.0 c.from_residual-in_err-rises.ensures.0 c.from_residual-in_err-rises.ensures.1
    (fault_behind names c.in_err-rises.field-0.0 (peak_slot ∷ []) ((value_slots n) ++ ((sides_slots Rise n) ++ ((sides_slots Fall n) ++ (end_slot ∷ [])))) (peak_item c.in_ok-peak.peak c.in_ok-peak.cost ∷ []) c.args.cursor.now.number c.take_peak.new.cursor.number c.args.cursor.now.records c.take_peak.new.cursor.records c.in_ok-peak.ensures
    (fault_behind names c.in_err-rises.field-0.0 (value_slots n) ((sides_slots Rise n) ++ ((sides_slots Fall n) ++ (end_slot ∷ []))) (map value_item c.in_ok-values.values.items) c.take_peak.new.cursor.number c.read_values.new.cursor.number c.take_peak.new.cursor.records c.read_values.new.cursor.records c.in_ok-values.ensures.read
    (fault_front names c.in_err-rises.field-0.0 (sides_slots Rise n) ((sides_slots Fall n) ++ (end_slot ∷ [])) c.read_values.new.cursor.number c.read_values.new.cursor.records c.in_err-rises.ensures.read)))

pub returns-in_err-falls-clause-read : goal.returns-in_err-falls-clause-read
returns-in_err-falls-clause-read c =
    let names = names_of c.args.study.now in
    let n = length names in
    passed_on names (slots n) _ c.args.cursor.now.number c.read_sides-2.new.cursor.number c.args.cursor.now.records c.read_sides-2.new.cursor.records c.from_residual-in_err-falls.result c.in_err-falls.field-0.0 c.from_residual-in_err-falls.ensures.0 c.from_residual-in_err-falls.ensures.1
    (fault_behind names c.in_err-falls.field-0.0 (peak_slot ∷ []) ((value_slots n) ++ ((sides_slots Rise n) ++ ((sides_slots Fall n) ++ (end_slot ∷ [])))) (peak_item c.in_ok-peak.peak c.in_ok-peak.cost ∷ []) c.args.cursor.now.number c.take_peak.new.cursor.number c.args.cursor.now.records c.take_peak.new.cursor.records c.in_ok-peak.ensures
    (fault_behind names c.in_err-falls.field-0.0 (value_slots n) ((sides_slots Rise n) ++ ((sides_slots Fall n) ++ (end_slot ∷ []))) (map value_item c.in_ok-values.values.items) c.take_peak.new.cursor.number c.read_values.new.cursor.number c.take_peak.new.cursor.records c.read_values.new.cursor.records c.in_ok-values.ensures.read
    (fault_behind names c.in_err-falls.field-0.0 (sides_slots Rise n) ((sides_slots Fall n) ++ (end_slot ∷ [])) (flat_map side_items c.in_ok-rises.rises.items) c.read_values.new.cursor.number c.read_sides.new.cursor.number c.read_values.new.cursor.records c.read_sides.new.cursor.records c.in_ok-rises.ensures.read
    (fault_front names c.in_err-falls.field-0.0 (sides_slots Fall n) (end_slot ∷ []) c.read_sides.new.cursor.number c.read_sides.new.cursor.records c.in_err-falls.ensures.read))))

pub returns-in_err-take_end-clause-read : goal.returns-in_err-take_end-clause-read
returns-in_err-take_end-clause-read c =
    let names = names_of c.args.study.now in
    let n = length names in
    passed_on names (slots n) _ c.args.cursor.now.number c.take_end.new.cursor.number c.args.cursor.now.records c.take_end.new.cursor.records c.from_residual-in_err-take_end.result c.in_err-take_end.field-0.0 c.from_residual-in_err-take_end.ensures.0 c.from_residual-in_err-take_end.ensures.1
    (fault_behind names c.in_err-take_end.field-0.0 (peak_slot ∷ []) ((value_slots n) ++ ((sides_slots Rise n) ++ ((sides_slots Fall n) ++ (end_slot ∷ [])))) (peak_item c.in_ok-peak.peak c.in_ok-peak.cost ∷ []) c.args.cursor.now.number c.take_peak.new.cursor.number c.args.cursor.now.records c.take_peak.new.cursor.records c.in_ok-peak.ensures
    (fault_behind names c.in_err-take_end.field-0.0 (value_slots n) ((sides_slots Rise n) ++ ((sides_slots Fall n) ++ (end_slot ∷ []))) (map value_item c.in_ok-values.values.items) c.take_peak.new.cursor.number c.read_values.new.cursor.number c.take_peak.new.cursor.records c.read_values.new.cursor.records c.in_ok-values.ensures.read
    (fault_behind names c.in_err-take_end.field-0.0 (sides_slots Rise n) ((sides_slots Fall n) ++ (end_slot ∷ [])) (flat_map side_items c.in_ok-rises.rises.items) c.read_values.new.cursor.number c.read_sides.new.cursor.number c.read_values.new.cursor.records c.read_sides.new.cursor.records c.in_ok-rises.ensures.read
    (fault_behind names c.in_err-take_end.field-0.0 (sides_slots Fall n) (end_slot ∷ []) (flat_map side_items c.in_ok-falls.falls.items) c.read_sides.new.cursor.number c.read_sides-2.new.cursor.number c.read_sides.new.cursor.records c.read_sides-2.new.cursor.records c.in_ok-falls.ensures.read
    (c.in_err-take_end.ensures)))))

pub returns-clause-read : goal.returns-clause-read
returns-clause-read c =
    let names = names_of c.args.study.now in
    let n = length names in
    subst (λ (x : Peaked). Takes names (slots n) (items_of x) c.args.cursor.now.number c.args.cursor.now.records c.take_end.new.cursor.number c.take_end.new.cursor.records) (sym c.make.ensures)
    (takes_then names (peak_slot ∷ []) ((value_slots n) ++ ((sides_slots Rise n) ++ ((sides_slots Fall n) ++ (end_slot ∷ [])))) (peak_item c.in_ok-peak.peak c.in_ok-peak.cost ∷ []) ((map value_item c.in_ok-values.values.items) ++ ((flat_map side_items c.in_ok-rises.rises.items) ++ ((flat_map side_items c.in_ok-falls.falls.items) ++ (end_item ∷ [])))) c.args.cursor.now.number c.take_peak.new.cursor.number c.take_end.new.cursor.number c.args.cursor.now.records c.take_peak.new.cursor.records c.take_end.new.cursor.records c.in_ok-peak.ensures
    (takes_then names (value_slots n) ((sides_slots Rise n) ++ ((sides_slots Fall n) ++ (end_slot ∷ []))) (map value_item c.in_ok-values.values.items) ((flat_map side_items c.in_ok-rises.rises.items) ++ ((flat_map side_items c.in_ok-falls.falls.items) ++ (end_item ∷ []))) c.take_peak.new.cursor.number c.read_values.new.cursor.number c.take_end.new.cursor.number c.take_peak.new.cursor.records c.read_values.new.cursor.records c.take_end.new.cursor.records c.in_ok-values.ensures.read
    (takes_then names (sides_slots Rise n) ((sides_slots Fall n) ++ (end_slot ∷ [])) (flat_map side_items c.in_ok-rises.rises.items) ((flat_map side_items c.in_ok-falls.falls.items) ++ (end_item ∷ [])) c.read_values.new.cursor.number c.read_sides.new.cursor.number c.take_end.new.cursor.number c.read_values.new.cursor.records c.read_sides.new.cursor.records c.take_end.new.cursor.records c.in_ok-rises.ensures.read
    (takes_then names (sides_slots Fall n) (end_slot ∷ []) (flat_map side_items c.in_ok-falls.falls.items) (end_item ∷ []) c.read_sides.new.cursor.number c.read_sides-2.new.cursor.number c.take_end.new.cursor.number c.read_sides.new.cursor.records c.read_sides-2.new.cursor.records c.take_end.new.cursor.records c.in_ok-falls.ensures.read
    (c.in_ok-take_end.ensures)))))

pub returns-clause-shaped : goal.returns-clause-shaped
returns-clause-shaped c =
    let names = names_of c.args.study.now in
    let n = length names in
    subst (IsShaped n) (sym c.make.ensures)
    (shape_made n _ c.requires.places (peak_so names c.in_ok-peak.peak c.in_ok-peak.cost _ _ _ _ c.in_ok-peak.ensures) (omega (arith, c.in_ok-values.ensures.count, c.in_ok-values.values.ok.0)) (omega (arith, c.in_ok-rises.ensures.count, c.in_ok-rises.rises.ok.0))
    (omega (arith, c.in_ok-falls.ensures.count, c.in_ok-falls.falls.ok.0)) c.in_ok-rises.ensures.sides c.in_ok-falls.ensures.sides)
