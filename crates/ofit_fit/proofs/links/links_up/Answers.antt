use Rattle.std.proofs.Common.{arith}
use Rattle.std.proofs.lemmas.List.Elements.{Contains-get_or}
use Rattle.ofit_order.specs.Connection.{LeadsUp}
use Rattle.ofit_fit.proofs.Linking.{first_none, first_more, first_all}
use Rattle.ofit_fit.proofs.links.links_up.Goals as goal

pub loop-place-init : goal.loop-place-init
loop-place-init c = first_none (LeadsUp c.args.pairs.now) c.args.members.now c.new-links.result.items c.new-links.ensures.items

pub link_up-requires-clause-closed : goal.link_up-requires-clause-closed
link_up-requires-clause-closed c = λ b p. (c.requires.closed _ b p).0 (Contains-get_or c.args.members.now c.loop-place.place-index 0 (omega arith))

pub loop-place-preserved : goal.loop-place-preserved
loop-place-preserved c = first_more (LeadsUp c.args.pairs.now) c.args.members.now c.loop-place.place-index c.loop-place.links.items _ _ c.in_ok-push.ensures.items c.link_up.ensures c.loop-place.invariant

pub returns : goal.returns
returns c = first_all (LeadsUp c.args.pairs.now) c.args.members.now c.loop-place.place-index c.loop-place.links.items (omega arith) c.loop-place.invariant
