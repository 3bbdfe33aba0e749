use Rattle.std.proofs.Common.{◌≡◌, ◌++◌, map, take}
use Rattle.std.specs.List.{enumerate_from}
use Rattle.ofit_records.specs.Written.{records_text}
use Rattle.ofit_study.specs.Study.{names_of}
use Rattle.ofit_sheet.specs.PeakedText.{peaked_value_fields}
use Rattle.ofit_sheet.proofs.peaked.write.write_values.Given as goal

abbrev pub invariant-loop-place : goal.invariant-loop-place
invariant-loop-place l = l.writer ≡ l.initial.writer ++ records_text (map (peaked_value_fields (names_of l.study)) (take l.place (enumerate_from 0 l.peaked.values)))
