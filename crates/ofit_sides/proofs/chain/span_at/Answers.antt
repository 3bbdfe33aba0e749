use Rattle.ofit_loss.proofs.ProblemLaws.{group_fittable}
use Rattle.ofit_sides.proofs.chain.span_at.Goals as goal

pub span-least-requires : goal.span-least-requires
span-least-requires c = group_fittable c.args.groups.now c.args.place c.rows.result.now c.rows.ensures c.requires.fittable
