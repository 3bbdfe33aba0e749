use Rattle.std.proofs.Common.{arith, subst, sym}
use Rattle.std.specs.List.{Contains}
use Rattle.std.proofs.lemmas.List.Elements.{Contains-get_or}
use Rattle.ofit_fit.proofs.Generals.{AreGathered, gathered_none, gathered_more, gathered_all}
use Rattle.ofit_fit.proofs.general.pairs_between.Goals as goal

pub loop-position-init : goal.loop-position-init
loop-position-init c = subst (AreGathered c.args.pairs.now c.args.members.now 0) (sym c.new-found.ensures.items) (gathered_none c.args.pairs.now c.args.members.now)

pub add_pairs-requires-clause-inside : goal.add_pairs-requires-clause-inside
add_pairs-requires-clause-inside c = λ a b h.
    let p = (c.pairs_above.ensures.above (a, b)).0 h in
    (c.requires.closed a b p.0).0 (subst (Contains c.args.members.now) (sym p.1) (Contains-get_or c.args.members.now c.loop-position.position 0 (omega arith)))

pub loop-position-preserved : goal.loop-position-preserved
loop-position-preserved c = gathered_more c.args.pairs.now c.args.members.now c.pairs_above.result.now c.loop-position.position c.loop-position.found.items c.add_pairs.new.found.items c.requires.rising (omega arith)
    c.pairs_above.ensures.above c.pairs_above.ensures.run c.in_ok-add_pairs.ensures c.loop-position.invariant

pub returns : goal.returns
returns c = gathered_all c.args.pairs.now c.args.members.now c.loop-position.position c.loop-position.found.items (omega arith) c.loop-position.invariant
