use Rattle.std.proofs.Common.{length}
use Rattle.ofit_table.specs.Reading.{IsSoFar}
use Rattle.ofit_table.proofs.data.add_records.Given as goal

abbrev pub invariant-loop-study : goal.invariant-loop-study
invariant-loop-study l = IsSoFar l.columns l.initial.records l.records l.initial.study.settings l.study

abbrev pub decreases-loop-study : goal.decreases-loop-study
decreases-loop-study l = length l.records
