use Rattle.ofit_num.proofs.TableSettled.{absolute_best_settled, absolute_least_settled, squared_best_settled, either_best_settled}
use Rattle.ofit_num.proofs.laws.best_is_settled.Goals as goal

pub returns-clause-absolute : goal.returns-clause-absolute
returns-clause-absolute c = absolute_best_settled

pub returns-clause-least : goal.returns-clause-least
returns-clause-least c = absolute_least_settled

pub returns-clause-squared : goal.returns-clause-squared
returns-clause-squared c = squared_best_settled

pub returns-clause-either : goal.returns-clause-either
returns-clause-either c = either_best_settled
