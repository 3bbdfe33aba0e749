use Rattle.ofit_loss.proofs.Joined.{joined, joined_back}
use Rattle.ofit_loss.proofs.quantile.QuantilePool.join.Goals as goal

pub returns-then-count : goal.returns-then-count
returns-then-count c xs ys p q = joined_back c.args.factors.above c.args.factors.below c.args.self c.args.other c.with.result xs ys p q c.with.ensures.balanced c.with.ensures.rows

pub returns-else-count : goal.returns-else-count
returns-else-count c xs ys p q = joined c.args.factors.above c.args.factors.below c.args.self c.args.other c.with-else-count.result xs ys p q c.with-else-count.ensures.balanced c.with-else-count.ensures.rows
