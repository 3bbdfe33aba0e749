use Rattle.std.proofs.Common.{arith}
use Rattle.std.proofs.lemmas.List.Elements.{Contains-get_or}
use Rattle.ofit_fit.proofs.Closed.{distinct_from_increasing}
use Rattle.ofit_fit.proofs.Generals.{added_none, added_more, added_all}
use Rattle.ofit_fit.proofs.general.add_pairs.Goals as goal

pub loop-pair-init : goal.loop-pair-init
loop-pair-init c = added_none c.args.members.now c.args.above.now c.args.position c.args.found.now.items

pub position_of-requires-clause-member : goal.position_of-requires-clause-member
position_of-requires-clause-member c = c.requires.inside _ _ (Contains-get_or c.args.above.now c.loop-pair.pair-index (0, 0) (omega arith))

pub loop-pair-preserved : goal.loop-pair-preserved
loop-pair-preserved c = rw c.in_ok-push.ensures.items (added_more c.args.members.now c.args.above.now c.args.position c.args.found.now.items c.loop-pair.found.items c.loop-pair.pair-index c.position_of.result
    (distinct_from_increasing c.args.members.now c.requires.rising) (omega arith) c.position_of.ensures.inside c.position_of.ensures.at c.loop-pair.invariant)

pub returns : goal.returns
returns c = added_all c.args.members.now c.args.above.now c.args.position c.args.found.now.items c.loop-pair.found.items c.loop-pair.pair-index (omega arith) c.loop-pair.invariant
