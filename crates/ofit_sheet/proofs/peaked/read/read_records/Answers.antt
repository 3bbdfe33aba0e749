use Rattle.std.proofs.Common.{◌≡◌, ℕ, List, [], length, subst, arith}
use Rattle.csv.specs.Records.{fields_of}
use Rattle.ofit_study.specs.Study.{names_of}
use Rattle.ofit_sheet.specs.Slots.{slots}
use Rattle.ofit_sheet.specs.PeakedRead.{items_of}
use Rattle.ofit_sheet.specs.PeakedSteps.{Takes, PartFault}
use Rattle.ofit_sheet.proofs.PeakedWhole.{whole_read, after_read, part_fault, passed_whole}
use Rattle.ofit_sheet.proofs.peaked.read.read_records.Goals as goal

pub returns-in_err-peaked : goal.returns-in_err-peaked
returns-in_err-peaked c =
    let names = names_of c.args.study.now in
    let h = c.in_ok-places.ensures in
    let one : c.read_header.new.cursor.number ≡ 1 = omega (arith, h.3, c.requires.start) in
    passed_whole names c.args.cursor.now.records c.from_residual-in_err-peaked.result c.in_err-peaked.field-0.0 c.from_residual-in_err-peaked.ensures.0 c.from_residual-in_err-peaked.ensures.1
    (part_fault names c.in_ok-places.places c.args.cursor.now.records h.0 c.read_header.new.cursor.records h.1 h.2 c.in_err-peaked.field-0.0
    (subst (λ (k : ℕ). PartFault names (slots (length names)) k c.read_header.new.cursor.records c.in_err-peaked.field-0.0) one c.in_err-peaked.ensures.read))

pub returns-in-Ok : goal.returns-in-Ok
returns-in-Ok c =
    let names = names_of c.args.study.now in
    let h = c.in_ok-places.ensures in
    let x = c.in_ok-peaked.peaked in
    let one : c.read_header.new.cursor.number ≡ 1 = omega (arith, h.3, c.requires.start) in
    let t : Takes names (slots (length names)) (items_of x) 1 c.read_header.new.cursor.records c.read_parts.new.cursor.number c.read_parts.new.cursor.records =
    subst (λ (k : ℕ). Takes names (slots (length names)) (items_of x) k c.read_header.new.cursor.records c.read_parts.new.cursor.number c.read_parts.new.cursor.records) one c.in_ok-peaked.ensures.read in
    after_read names c.in_ok-places.places c.args.cursor.now.records h.0 c.read_header.new.cursor.records h.1 h.2 (items_of x) c.read_parts.new.cursor.number c.advance.new.cursor.number (fields_of c.advance.new.cursor.row) c.advance.new.cursor.records
    (subst (λ (r : List (List (List ℕ))). Takes names (slots (length names)) (items_of x) 1 c.read_header.new.cursor.records c.read_parts.new.cursor.number r) c.in-Ok.ensures.0 t) c.in-Ok.ensures.1

pub returns-in-Err-NoEnd : goal.returns-in-Err-NoEnd
returns-in-Err-NoEnd c =
    let names = names_of c.args.study.now in
    let h = c.in_ok-places.ensures in
    let x = c.in_ok-peaked.peaked in
    let one : c.read_header.new.cursor.number ≡ 1 = omega (arith, h.3, c.requires.start) in
    let t : Takes names (slots (length names)) (items_of x) 1 c.read_header.new.cursor.records c.read_parts.new.cursor.number c.read_parts.new.cursor.records =
    subst (λ (k : ℕ). Takes names (slots (length names)) (items_of x) k c.read_header.new.cursor.records c.read_parts.new.cursor.number c.read_parts.new.cursor.records) one c.in_ok-peaked.ensures.read in
    let none : c.read_parts.new.cursor.records ≡ [] = rw c.in-Err-NoEnd.field-0-is at c.in-Err-NoEnd.ensures in
    whole_read names c.in_ok-places.places c.args.cursor.now.records h.0 c.read_header.new.cursor.records h.1 h.2 x c.read_parts.new.cursor.number
    (subst (λ (r : List (List (List ℕ))). Takes names (slots (length names)) (items_of x) 1 c.read_header.new.cursor.records c.read_parts.new.cursor.number r) none t) c.in_ok-peaked.ensures.shaped c.in_ok-peaked.ensures.places
