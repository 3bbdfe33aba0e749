use Rattle.std.proofs.Common.{◌≡◌, [], ◌∷◌, ℕ, map, length}
use Rattle.std.specs.List.{range_with_len, flat_map}
use Rattle.ofit_study.specs.Study.{names_of}
use Rattle.ofit_sheet.specs.Slots.{value_slot}
use Rattle.ofit_sheet.specs.PeakedRead.{value_item}
use Rattle.ofit_sheet.specs.PeakedSteps.{Takes}
use Rattle.ofit_sheet.proofs.peaked.read.read_values.Given as goal

abbrev pub invariant-loop-place : goal.invariant-loop-place
invariant-loop-place l = record {
  taken : Takes (names_of l.study) (flat_map (λ (p : ℕ). value_slot p ∷ []) (range_with_len 0 l.place)) (map value_item l.values.items) l.initial.cursor.number l.initial.cursor.records l.cursor.number l.cursor.records;
  counted : length l.values.items ≡ l.place;
}
