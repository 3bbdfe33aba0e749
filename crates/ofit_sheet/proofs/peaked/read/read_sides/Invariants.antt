use Rattle.std.proofs.Common.{◌≡◌, ◌<◌, ℕ, suc, [], length}
use Rattle.std.specs.Prelude.{slice_index_or}
use Rattle.std.specs.List.{range_with_len, flat_map}
use Rattle.ofit_study.specs.Study.{names_of}
use Rattle.ofit_sheet.specs.Peaked.{IsSide}
use Rattle.ofit_sheet.specs.Slots.{side_slots, steps_before_last}
use Rattle.ofit_sheet.specs.PeakedRead.{side_items}
use Rattle.ofit_sheet.specs.PeakedSteps.{Takes}
use Rattle.ofit_sheet.proofs.peaked.read.read_sides.Given as goal

abbrev pub invariant-loop-index : goal.invariant-loop-index
invariant-loop-index l = record {
  taken : Takes (names_of l.study) (flat_map (side_slots l.slope (length (names_of l.study))) (range_with_len 0 l.index)) (flat_map side_items l.sides.items) l.initial.cursor.number l.initial.cursor.records l.cursor.number l.cursor.records;
  counted : length l.sides.items ≡ l.index;
  sides : (k : ℕ) → k < l.index → IsSide (suc (steps_before_last l.slope (length (names_of l.study)) k)) (slice_index_or l.sides.items k []);
}
