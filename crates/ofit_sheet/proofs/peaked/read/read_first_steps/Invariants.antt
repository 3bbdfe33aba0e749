use Rattle.std.proofs.Common.{◌≡◌, [], ◌∷◌, ℕ, ℤ, pos, map, length}
use Rattle.std.specs.Prelude.{All, ◌≤ℤ◌}
use Rattle.std.specs.List.{range_with_len, flat_map}
use Rattle.ofit_study.specs.Study.{names_of}
use Rattle.ofit_sheet.specs.Slots.{step_slot}
use Rattle.ofit_sheet.specs.PeakedRead.{step_told}
use Rattle.ofit_sheet.specs.PeakedSteps.{Takes}
use Rattle.ofit_sheet.proofs.peaked.read.read_first_steps.Given as goal

abbrev pub invariant-loop-offset : goal.invariant-loop-offset
invariant-loop-offset l = record {
  taken : Takes (names_of l.study) (flat_map (λ (p : ℕ). step_slot p ∷ []) (range_with_len l.start l.offset)) (map step_told l.steps.items) l.initial.cursor.number l.initial.cursor.records l.cursor.number l.cursor.records;
  counted : length l.steps.items ≡ l.offset;
  amounts : All (λ (step : ℤ × ℤ). pos 0 ≤ℤ step.1) l.steps.items;
}
