use Rattle.ofit_loss.proofs.ProblemLaws.{fittable-front, fittable-back}
use Rattle.ofit_tests.proofs.losses.least_of.Goals as goal

pub pool_of-requires : goal.pool_of-requires
pool_of-requires g c = fittable-front c.args.front.now c.args.back.now c.requires.fittable

pub pool_of-requires-2 : goal.pool_of-requires-2
pool_of-requires-2 g c = fittable-back c.args.front.now c.args.back.now c.requires.fittable
