use Rattle.std.proofs.Common.{length}
use Rattle.ofit_records.specs.Records.{records_of}
use Rattle.ofit_script.specs.Reading.{IsReadSoFar}
use Rattle.ofit_script.proofs.read.read_script.Given as goal

abbrev pub invariant-loop-script : goal.invariant-loop-script
invariant-loop-script l = IsReadSoFar l.places (records_of l.bytes) l.records l.script

abbrev pub decreases-loop-script : goal.decreases-loop-script
decreases-loop-script l = length l.records
