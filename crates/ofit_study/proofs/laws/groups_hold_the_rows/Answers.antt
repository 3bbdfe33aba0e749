use Rattle.ofit_study.proofs.Stating.{rows_counted, rows_weighed, groups_filled}
use Rattle.ofit_study.proofs.laws.groups_hold_the_rows.Goals as goal

pub returns-clause-rows : goal.returns-clause-rows
returns-clause-rows c = rows_counted

pub returns-clause-weight : goal.returns-clause-weight
returns-clause-weight c = rows_weighed

pub returns-clause-filled : goal.returns-clause-filled
returns-clause-filled c = groups_filled
