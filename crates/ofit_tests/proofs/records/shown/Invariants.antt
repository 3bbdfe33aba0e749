use Rattle.std.proofs.Common.{length}
use Rattle.ofit_tests.proofs.records.shown.Given as goal

abbrev pub decreases-loop-record : goal.decreases-loop-record
decreases-loop-record l = length l.records
