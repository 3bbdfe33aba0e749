use Rattle.ofit_span.proofs.Fittable.{rows_fittable}
use Rattle.ofit_span.proofs.span.span_of.Goals as goal

pub ends_of-least-requires : goal.ends_of-least-requires
ends_of-least-requires c = rows_fittable c.args.study.now c.keeps_limits.ensures.valid c.args.place c.rows_of.result.now c.rows_of.ensures
