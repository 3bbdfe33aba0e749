use Rattle.std.proofs.Common.{arith}
use Rattle.std.proofs.lemmas.List.Elements.{Contains-get_or}
use Rattle.ofit_fit.proofs.Closed.{distinct_from_increasing}
use Rattle.ofit_fit.proofs.Linking.{linked_none, linked_more, linked_all}
use Rattle.ofit_fit.proofs.links.link_back.Goals as goal

pub loop-pair-init : goal.loop-pair-init
loop-pair-init c = linked_none c.args.members.now c.args.above.now c.args.position c.args.links.now.items

pub position_of-requires-clause-member : goal.position_of-requires-clause-member
position_of-requires-clause-member c = c.requires.inside _ _ (Contains-get_or c.args.above.now c.loop-pair.pair-index (0, 0) (omega arith))

pub loop-pair-preserved : goal.loop-pair-preserved
loop-pair-preserved c =
    linked_more c.args.members.now c.args.above.now c.args.position c.args.links.now.items c.loop-pair.links.items c.loop-pair.pair-index c.position_of.result
    (distinct_from_increasing c.args.members.now c.requires.rising) (omega arith) (omega arith) c.position_of.ensures.inside c.position_of.ensures.at c.loop-pair.invariant

pub returns : goal.returns
returns c = linked_all c.args.members.now c.args.above.now c.args.position c.args.links.now.items c.loop-pair.links.items c.loop-pair.pair-index (omega arith) c.loop-pair.invariant
