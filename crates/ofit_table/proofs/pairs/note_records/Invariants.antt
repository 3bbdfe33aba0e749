use Rattle.std.proofs.Common.{length}
use Rattle.ofit_study.specs.Study.{names_of}
use Rattle.ofit_table.specs.Reading.{IsReadSoFar}
use Rattle.ofit_table.proofs.pairs.note_records.Given as goal

abbrev pub invariant-loop-row : goal.invariant-loop-row
invariant-loop-row l = IsReadSoFar l.columns (names_of l.study) l.initial.records l.records l.number l.known

abbrev pub decreases-loop-row : goal.decreases-loop-row
decreases-loop-row l = length l.records
