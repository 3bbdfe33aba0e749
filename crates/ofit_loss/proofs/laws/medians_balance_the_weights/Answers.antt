use Rattle.ofit_loss.proofs.Entries.{median_least, median_greatest}
use Rattle.ofit_loss.proofs.laws.medians_balance_the_weights.Goals as goal

pub returns-clause-least : goal.returns-clause-least
returns-clause-least c = median_least

pub returns-clause-greatest : goal.returns-clause-greatest
returns-clause-greatest c = median_greatest
