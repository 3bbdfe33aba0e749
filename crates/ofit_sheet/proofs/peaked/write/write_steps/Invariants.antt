use Rattle.std.proofs.Common.{◌≡◌, ◌+◌, ◌++◌, map, take}
use Rattle.std.specs.List.{enumerate_from}
use Rattle.ofit_records.specs.Written.{records_text}
use Rattle.ofit_study.specs.Study.{names_of}
use Rattle.ofit_sheet.specs.PeakedText.{step_fields}
use Rattle.ofit_sheet.proofs.peaked.write.write_steps.Given as goal

abbrev pub invariant-loop-step : goal.invariant-loop-step
invariant-loop-step l = record {
  placed : l.place ≡ l.start + l.step-index;
  text : l.writer ≡ l.initial.writer ++ records_text (map (step_fields (names_of l.study)) (take l.step-index (enumerate_from l.start l.step-items)));
}
