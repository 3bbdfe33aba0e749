use Rattle.std.proofs.Common.{◌-◌}
use Rattle.ofit_sample.specs.Made.{later_draws}
use Rattle.ofit_sample.specs.Making.{IsUnderway}
use Rattle.ofit_sample.proofs.Making.{rows_upto}
use Rattle.ofit_sample.proofs.rows.add_later_rows.Given as goal

abbrev pub invariant-loop-row : goal.invariant-loop-row
invariant-loop-row l = IsUnderway l.job (rows_upto l.job (l._row - l.job.groups)) l.job.groups (later_draws l.job.groups (l._row - l.job.groups)) l.study l.generator.number
