use Rattle.ofit_study.proofs.Stating.{pairs_have_places, pairs_distinct}
use Rattle.ofit_study.proofs.laws.pairs_join_groups.Goals as goal

pub returns-clause-places : goal.returns-clause-places
returns-clause-places c = pairs_have_places

pub returns-clause-distinct : goal.returns-clause-distinct
returns-clause-distinct c = pairs_distinct
