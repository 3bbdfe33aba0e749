use Rattle.std.proofs.Common.{◌*◌}
use Rattle.ofit_sample.specs.Made.{first_rows}
use Rattle.ofit_sample.specs.Making.{IsUnderway}
use Rattle.ofit_sample.proofs.rows.add_first_rows.Given as goal

abbrev pub invariant-loop-place : goal.invariant-loop-place
invariant-loop-place l = IsUnderway l.job (first_rows l.job.seed l.place) l.place (2 * l.place) l.study l.generator.number
