use Rattle.std.proofs.Common.{◌≡◌, ◌++◌, map, take}
use Rattle.ofit_records.specs.Written.{records_text}
use Rattle.ofit_study.specs.Study.{names_of}
use Rattle.ofit_sheet.specs.SheetText.{value_fields}
use Rattle.ofit_sheet.proofs.write.write_values.Given as goal

abbrev pub invariant-loop-index : goal.invariant-loop-index
invariant-loop-index l = l.writer ≡ l.initial.writer ++ records_text (map (value_fields (names_of l.study)) (take l.index l.sheet.values))
