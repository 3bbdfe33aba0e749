use Rattle.std.proofs.Common.{◌≡◌, ◌<◌, ◌++◌, ◌∷◌, [], length, ap, arith}
use Rattle.std.specs.List.{flat_map}
use Rattle.std.proofs.lemmas.List.{length_push}
use Rattle.ofit_study.specs.Study.{names_of}
use Rattle.ofit_sheet.specs.Slots.{side_slots, sides_slots}
use Rattle.ofit_sheet.specs.PeakedRead.{side_items}
use Rattle.ofit_sheet.proofs.PeakedParts.{passed_on, loop_more, loop_fault, flat_push}
use Rattle.ofit_sheet.proofs.PeakedSides.{has_more}
use Rattle.ofit_sheet.proofs.peaked.read.read_sides.Goals as goal

pub returns-in_err-side-clause-read : goal.returns-in_err-side-clause-read
returns-in_err-side-clause-read c =
    let names = names_of c.args.study.now in
    let l = c.loop-index in
    let inside : l.index < length names = omega (arith, c.group_count-index-end.ensures.count, c.loop-index-test.true) in
    passed_on names (sides_slots c.args.slope (length names)) _ c.args.cursor.now.number c.read_side.new.cursor.number c.args.cursor.now.records c.read_side.new.cursor.records c.from_residual.result c.in_err-side.field-0.0
    c.from_residual.ensures.0 c.from_residual.ensures.1
    (loop_fault names (side_slots c.args.slope (length names)) 0 l.index l.index (omega arith) (flat_map side_items l.sides.items) c.args.cursor.now.number l.cursor.number c.args.cursor.now.records l.cursor.records l.invariant.taken (length names) inside
    c.in_err-side.field-0.0 c.in_err-side.ensures.read)

pub loop-index-preserved : goal.loop-index-preserved
loop-index-preserved c =
    let names = names_of c.args.study.now in
    let l = c.loop-index in
    let side = c.in_ok-side.side in
    let pushed : c.push.new.self.items ≡ l.sides.items ++ side ∷ [] = c.in-Ok.ensures.items in
    record {
      taken = loop_more names (side_slots c.args.slope (length names)) 0 l.index l.index (omega arith) (flat_map side_items l.sides.items) c.args.cursor.now.number l.cursor.number c.args.cursor.now.records l.cursor.records l.invariant.taken
          (side_items side) (flat_map side_items c.push.new.self.items) c.read_side.new.cursor.number c.read_side.new.cursor.records c.in_ok-side.ensures.read (flat_push side_items l.sides.items c.push.new.self.items side pushed);
      counted = omega (arith, ap length pushed, length_push l.sides.items side, l.invariant.counted);
      sides = has_more c.args.slope (length names) l.index l.sides.items c.push.new.self.items side l.invariant.counted pushed l.invariant.sides c.in_ok-side.ensures.side;
    }

pub returns-clause-read : goal.returns-clause-read
returns-clause-read c =
    let names = names_of c.args.study.now in
    let l = c.loop-index in
    let all : l.index ≡ length names = omega (arith, c.group_count-index-end.ensures.count, c.loop-index-test.false) in
    rw all at (l.invariant.taken)
