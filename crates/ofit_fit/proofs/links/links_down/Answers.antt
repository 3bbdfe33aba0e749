use Rattle.std.proofs.Common.{ℕ, arith, rules, subst, sym, List}
use Rattle.std.specs.Prelude.{Option}
use Rattle.std.specs.List.{Contains}
use Rattle.std.proofs.lemmas.List.Elements.{Contains-get_or}
use Rattle.ofit_fit.proofs.Linking.{AreLinkedUpTo, linked_start, linked_step, linked_down}
use Rattle.ofit_fit.proofs.links.links_down.Goals as goal

pub loop-position-init : goal.loop-position-init
loop-position-init c = subst (λ (links : List (Option ℕ)). AreLinkedUpTo c.args.pairs.now c.args.members.now 0 links) (sym (c.in_ok-links.ensures.items_if_clones_equal (λ y h. search rules))) (linked_start c.args.pairs.now c.args.members.now)

pub link_back-requires-clause-as_long : goal.link_back-requires-clause-as_long
link_back-requires-clause-as_long c = omega (arith, c.loop-position.invariant.count)

pub link_back-requires-clause-inside : goal.link_back-requires-clause-inside
link_back-requires-clause-inside c = λ a b h.
    let p = (c.pairs_above.ensures.above (a, b)).0 h in
    (c.requires.closed a b p.0).0 (subst (Contains c.args.members.now) (sym p.1) (Contains-get_or c.args.members.now c.loop-position.position 0 (omega arith)))

pub loop-position-preserved : goal.loop-position-preserved
loop-position-preserved c = linked_step c.args.pairs.now c.args.members.now c.pairs_above.result.now c.loop-position.position c.loop-position.links.items c.link_back.new.links.items (omega arith) c.pairs_above.ensures.above c.link_back.ensures c.loop-position.invariant

pub returns : goal.returns
returns c = linked_down c.args.pairs.now c.args.members.now c.loop-position.position c.loop-position.links.items (omega arith) c.requires.closed c.loop-position.invariant
