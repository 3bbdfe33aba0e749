use Rattle.ofit_study.proofs.Places.{pair_inside}
use Rattle.ofit_check.proofs.values.rises.Goals as goal

pub value_of-requires-clause-place : goal.value_of-requires-clause-place
value_of-requires-clause-place c = (pair_inside c.args.study.now c.requires.values.valid c.args.index c.pair_at-low.result c.pair_at-low.ensures).0

pub value_of-requires-2-clause-place : goal.value_of-requires-2-clause-place
value_of-requires-2-clause-place c = (pair_inside c.args.study.now c.requires.values.valid c.args.index c.pair_at-low.result c.pair_at-low.ensures).1
