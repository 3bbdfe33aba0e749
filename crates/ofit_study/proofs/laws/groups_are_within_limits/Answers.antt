use Rattle.ofit_study.proofs.Stating.{groups_named, rows_within, numbers_within}
use Rattle.ofit_study.proofs.laws.groups_are_within_limits.Goals as goal

pub returns-clause-names : goal.returns-clause-names
returns-clause-names c = groups_named

pub returns-clause-rows : goal.returns-clause-rows
returns-clause-rows c = rows_within

pub returns-clause-numbers : goal.returns-clause-numbers
returns-clause-numbers c = numbers_within
