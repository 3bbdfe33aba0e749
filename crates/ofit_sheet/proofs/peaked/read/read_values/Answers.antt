use Rattle.std.proofs.Common.{◌≡◌, ◌<◌, ◌++◌, ◌∷◌, [], ℤ, map, length, ap, ◌∙◌, arith, rules}
use Rattle.std.specs.Int.{w64}
use Rattle.std.proofs.lemmas.Int.{to_z-of_z}
use Rattle.std.proofs.lemmas.List.{length_push}
use Rattle.std.specs.List.{range_with_len}
use mir.Val.{of_z, to_z, SFits}
use Rattle.ofit_study.specs.Study.{names_of}
use Rattle.ofit_sheet.specs.Slots.{value_slot, value_slots}
use Rattle.ofit_sheet.specs.PeakedRead.{value_item}
use Rattle.ofit_sheet.proofs.PeakedParts.{passed_on, loop_more, map_all, map_fault, map_push}
use Rattle.ofit_sheet.proofs.peaked.read.read_values.Goals as goal

pub returns-in_err-value-clause-read : goal.returns-in_err-value-clause-read
returns-in_err-value-clause-read c =
    let names = names_of c.args.study.now in
    let l = c.loop-place in
    let inside : l.place < length names = omega (arith, c.group_count-place-end.ensures.count, c.loop-place-test.true) in
    passed_on names (value_slots (length names)) _ c.args.cursor.now.number c.take_value.new.cursor.number c.args.cursor.now.records c.take_value.new.cursor.records c.from_residual.result c.in_err-value.field-0.0
    c.from_residual.ensures.0 c.from_residual.ensures.1
    (map_fault names value_slot 0 l.place l.place (omega arith) (map value_item l.values.items) c.args.cursor.now.number l.cursor.number c.args.cursor.now.records l.cursor.records l.invariant.taken (length names) inside
    c.in_err-value.field-0.0 c.in_err-value.ensures)

pub loop-place-preserved : goal.loop-place-preserved
loop-place-preserved c =
    let names = names_of c.args.study.now in
    let l = c.loop-place in
    let fits : SFits w64 c.in_ok-value.value = search rules in
    let plain : to_z w64 (of_z w64 c.in_ok-value.value) ≡ c.in_ok-value.value = to_z-of_z w64 c.in_ok-value.value fits in
    let pushed : c.push.new.self.items ≡ l.values.items ++ c.in_ok-value.value ∷ [] = c.in-Ok.ensures.items ∙ ap (λ (z : ℤ). l.values.items ++ z ∷ []) plain in
    record {
      taken = loop_more names (λ k. value_slot k ∷ []) 0 l.place l.place (omega arith) (map value_item l.values.items) c.args.cursor.now.number l.cursor.number c.args.cursor.now.records l.cursor.records l.invariant.taken
          (value_item c.in_ok-value.value ∷ []) (map value_item c.push.new.self.items) c.take_value.new.cursor.number c.take_value.new.cursor.records c.in_ok-value.ensures
          (map_push value_item l.values.items c.push.new.self.items c.in_ok-value.value pushed);
      counted = omega (arith, ap length pushed, length_push l.values.items c.in_ok-value.value, l.invariant.counted);
    }

pub returns-clause-read : goal.returns-clause-read
returns-clause-read c =
    let names = names_of c.args.study.now in
    let l = c.loop-place in
    let all : l.place ≡ length names = omega (arith, c.group_count-place-end.ensures.count, c.loop-place-test.false) in
    rw all at (map_all names value_slot (range_with_len 0 l.place) (map value_item l.values.items) c.args.cursor.now.number l.cursor.number c.args.cursor.now.records l.cursor.records l.invariant.taken)
