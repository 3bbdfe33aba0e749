use Rattle.std.proofs.Common.{arith, ◌<◌, sym, subst, length}
use Rattle.std.specs.List.{All}
use Rattle.ofit_flow.specs.Flow.{amount_at, edge_at}
use Rattle.ofit_flow.specs.Incidence.{row_at}
use Rattle.ofit_flow.specs.Residual.{Touches}
use Rattle.ofit_flow.specs.Search.{IsLedOn, IsVisited}
use Rattle.ofit_flow.proofs.Searching.{next_read, row_below, row_touches, under_way_more, visited_by_row, searched_from}
use Rattle.ofit_flow.proofs.levels.search_levels.Goals as goal

pub row-requires : goal.row-requires
row-requires c =
    let waits : c.loop-next.next < length c.loop-next.search.queue.items = omega (arith, c.loop-next.search.queue.ok.0, c.len.ensures) in
    c.requires.rows c.index-node.result.now (next_read c.loop-next.invariant waits c.index-node.ensures).1

pub visit-requires-clause-numbered : goal.visit-requires-clause-numbered
visit-requires-clause-numbered c =
    let waits : c.loop-next.next < length c.loop-next.search.queue.items = omega (arith, c.loop-next.search.queue.ok.0, c.len.ensures) in
    subst (All (λ k. k < length c.args.edges.now)) (sym c.row.ensures)
    (row_below c.args.edges.now (length c.args.search.now.levels.items) c.index-node.result.now (row_at c.args.rows.now) (next_read c.loop-next.invariant waits c.index-node.ensures).1 c.requires.incidence)

pub visit-requires-clause-touches : goal.visit-requires-clause-touches
visit-requires-clause-touches c =
    let waits : c.loop-next.next < length c.loop-next.search.queue.items = omega (arith, c.loop-next.search.queue.ok.0, c.len.ensures) in
    subst (All (λ k. Touches (edge_at c.args.edges.now k) c.index-node.result.now)) (sym c.row.ensures)
    (row_touches c.args.edges.now (length c.args.search.now.levels.items) c.index-node.result.now (row_at c.args.rows.now) (next_read c.loop-next.invariant waits c.index-node.ensures).1 c.requires.incidence)

pub visit-requires-clause-levelled : goal.visit-requires-clause-levelled
visit-requires-clause-levelled c =
    let waits : c.loop-next.next < length c.loop-next.search.queue.items = omega (arith, c.loop-next.search.queue.ok.0, c.len.ensures) in
    (next_read c.loop-next.invariant waits c.index-node.ensures).2

pub visit-requires-clause-top : goal.visit-requires-clause-top
visit-requires-clause-top c =
    let waits : c.loop-next.next < length c.loop-next.search.queue.items = omega (arith, c.loop-next.search.queue.ok.0, c.len.ensures) in
    (next_read c.loop-next.invariant waits c.index-node.ensures).3

pub loop-next-preserved : goal.loop-next-preserved
loop-next-preserved c =
    let waits : c.loop-next.next < length c.loop-next.search.queue.items = omega (arith, c.loop-next.search.queue.ok.0, c.len.ensures) in
    let levels' = c.visit.new.search.levels.items in
    let led : All (λ k. IsLedOn (edge_at c.args.edges.now k) (amount_at c.args.amounts.now k) c.index-node.result.now levels') (row_at c.args.rows.now c.index-node.result.now) =
    subst (All (λ k. IsLedOn (edge_at c.args.edges.now k) (amount_at c.args.amounts.now k) c.index-node.result.now levels')) c.row.ensures c.in_ok-visit.ensures.led_on in
    let visited : IsVisited c.args.edges.now c.args.amounts.now levels' c.index-node.result.now = visited_by_row c.args.edges.now c.args.amounts.now levels' (length c.args.search.now.levels.items) c.index-node.result.now (row_at c.args.rows.now) c.requires.incidence led in
    under_way_more c.loop-next.invariant waits (next_read c.loop-next.invariant waits c.index-node.ensures).0
    c.in_ok-visit.ensures.start c.in_ok-visit.ensures.search c.in_ok-visit.ensures.extends c.in_ok-visit.ensures.top visited

pub returns-after-loop-next-clause-searched : goal.returns-after-loop-next-clause-searched
returns-after-loop-next-clause-searched c =
    searched_from c.args.goal c.loop-next.invariant (λ none. omega (arith, c.loop-next.search.queue.ok.0, c.len.ensures))
