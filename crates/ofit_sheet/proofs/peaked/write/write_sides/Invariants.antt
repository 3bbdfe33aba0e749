use Rattle.std.proofs.Common.{◌≡◌, ◌++◌, take}
use Rattle.std.specs.List.{enumerate_from, flat_map}
use Rattle.ofit_records.specs.Written.{records_text}
use Rattle.ofit_study.specs.Study.{names_of}
use Rattle.ofit_sheet.specs.PeakedText.{side_records}
use Rattle.ofit_sheet.specs.Sides.{sides_of}
use Rattle.ofit_sheet.proofs.peaked.write.write_sides.Given as goal

abbrev pub invariant-loop-index : goal.invariant-loop-index
invariant-loop-index l = l.writer ≡ l.initial.writer ++ records_text (flat_map (side_records (names_of l.study) l.slope) (take l.index (enumerate_from 0 (sides_of l.slope l.peaked))))
