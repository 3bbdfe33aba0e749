use Rattle.std.proofs.Common.{◌≡◌, length}
use Rattle.ofit_records.specs.Records.{without_marks}
use Rattle.ofit_records.proofs.marks.after_marks.Given as goal

abbrev pub invariant-loop-behind : goal.invariant-loop-behind
invariant-loop-behind l = without_marks l.rest ≡ without_marks l.bytes

abbrev pub decreases-loop-behind : goal.decreases-loop-behind
decreases-loop-behind l = length l.rest
