use Rattle.std.proofs.Common.{refl, arith, ◌≡◌, ◌+◌, sym, subst, ◌∙◌, ℕ, Some}
use Rattle.std.proofs.lemmas.List.{get_or_default}
use Rattle.ofit_flow.specs.Flow.{amount_at, edge_at}
use Rattle.ofit_flow.specs.Levels.{level_at}
use Rattle.ofit_flow.specs.Search.{CanSearch, IsLedOn, AreAtMost, height}
use Rattle.ofit_flow.proofs.Searching.{Extends-refl, Extends-levelled, height_is, level_read, levelled_within, part_way_more}
use Rattle.ofit_flow.proofs.levels.visit.Goals as goal

pub loop-number-preserved : goal.loop-number-preserved
loop-number-preserved c =
    let levels = c.args.search.now.levels.items in
    let found : level_at levels c.args.node ≡ Some c.in-Some.level = level_read levels c.args.node c.index.result.now (levelled_within levels c.args.node c.requires.levelled) c.index.ensures ∙ c.in-Some.is in
    let above : c.in-Some.level + 1 ≡ height levels c.args.node + 1 = omega (arith, height_is levels c.args.node c.in-Some.level found) in
    part_way_more c.args.edges.now c.args.amounts.now c.args.row.now c.args.node c.args.search.now.start levels c.args.search.now.queue.items c.loop-number.number-index c.loop-number.search.start c.loop-number.search.levels.items c.loop-number.search.queue.items
    c.visit_edge.new.search.start c.visit_edge.new.search.levels.items c.visit_edge.new.search.queue.items
    c.loop-number.invariant c.in_ok-visit_edge.ensures.start c.in_ok-visit_edge.ensures.search c.in_ok-visit_edge.ensures.extends
    (subst (AreAtMost c.visit_edge.new.search.levels.items) above c.in_ok-visit_edge.ensures.top) c.in_ok-visit_edge.ensures.led_on

pub returns-clause-led_on : goal.returns-clause-led_on
returns-clause-led_on c = λ k d b.
    subst (λ (i : ℕ). IsLedOn (edge_at c.args.edges.now i) (amount_at c.args.amounts.now i) c.args.node c.loop-number.search.levels.items) (sym (get_or_default c.args.row.now k d 0 b))
    (c.loop-number.invariant.led_on k (omega arith))

pub loop-number-init : goal.loop-number-init
loop-number-init c = record {
  start_same = refl;
  search = c.requires.search;
  extends = Extends-refl c.args.search.now.levels.items c.args.search.now.queue.items;
  top = c.requires.top;
  led_on = λ i b. absurd (omega arith);
}

pub visit_edge-requires-clause-net : goal.visit_edge-requires-clause-net
visit_edge-requires-clause-net c = subst (CanSearch c.args.edges.now c.args.amounts.now) (sym c.loop-number.invariant.extends.counted) c.requires.net

pub visit_edge-requires-clause-levelled : goal.visit_edge-requires-clause-levelled
visit_edge-requires-clause-levelled c =
    Extends-levelled c.args.search.now.levels.items c.args.search.now.queue.items c.loop-number.search.levels.items c.loop-number.search.queue.items c.loop-number.invariant.extends c.args.node c.requires.levelled

pub visit_edge-requires-clause-above : goal.visit_edge-requires-clause-above
visit_edge-requires-clause-above c =
    let levels = c.args.search.now.levels.items in
    let found = level_read levels c.args.node c.index.result.now (levelled_within levels c.args.node c.requires.levelled) c.index.ensures ∙ c.in-Some.is in
    omega (arith, height_is c.loop-number.search.levels.items c.args.node c.in-Some.level (c.loop-number.invariant.extends.kept c.args.node c.in-Some.level found))

pub visit_edge-requires-clause-top : goal.visit_edge-requires-clause-top
visit_edge-requires-clause-top c = λ node.
    let levels = c.args.search.now.levels.items in
    let found = level_read levels c.args.node c.index.result.now (levelled_within levels c.args.node c.requires.levelled) c.index.ensures ∙ c.in-Some.is in
    omega (arith, height_is levels c.args.node c.in-Some.level found, c.loop-number.invariant.top node)

pub visit_edge-requires-clause-numbered : goal.visit_edge-requires-clause-numbered
visit_edge-requires-clause-numbered c = c.requires.numbered c.loop-number.number-index 0 (omega arith)

pub visit_edge-requires-clause-touches : goal.visit_edge-requires-clause-touches
visit_edge-requires-clause-touches c = c.requires.touches c.loop-number.number-index 0 (omega arith)
