use Rattle.std.proofs.Common.{arith, ◌≡◌, sym, ap, subst, ◌∙◌, List, ℤ, Bool, map, is_some, length, to_z, of_z}
use Rattle.std.proofs.lemmas.Int.{ints}
use Rattle.std.proofs.lemmas.List.{length-map}
use mir.Syntax.{w128}
use Rattle.ofit_flow.specs.Maximum.{IsMaximumFlow}
use Rattle.ofit_flow.specs.Network.{members}
use Rattle.ofit_flow.specs.Reach.{IsBlocked, IsReach}
use Rattle.ofit_flow.specs.Residual.{left_over}
use Rattle.ofit_flow.proofs.Sides.{blocked_from_levels, reach_from_levels, maximum_from_sides}
use Rattle.ofit_flow.proofs.maximum.maximum_flow.Goals as goal

pub flow_by_phases-requires-clause-rows : goal.flow_by_phases-requires-clause-rows
flow_by_phases-requires-clause-rows c = λ node b. c.in_ok-rows.ensures.rows node (omega (arith, c.in_ok-search.ensures))

pub sink_side-requires-clause-rows : goal.sink_side-requires-clause-rows
sink_side-requires-clause-rows c = λ node b. c.in_ok-rows.ensures.rows node (omega (arith, c.in_ok-search.ensures, c.in_ok-flow.ensures.counted))

pub sink_side-requires-clause-blocked : goal.sink_side-requires-clause-blocked
sink_side-requires-clause-blocked c =
    subst (IsBlocked c.args.edges.now c.args.source c.args.sink) (sym c.as_slice-2.ensures.value) (blocked_from_levels c.in_ok-flow.ensures.searched c.in_ok-flow.ensures.ended)

pub returns-clause-flow : goal.returns-clause-flow
returns-clause-flow c =
    let es = c.args.edges.now in
    let xs = c.in_ok-flow.flow.amounts.items in
    let levels = c.flow_by_phases.new.search.levels.items in
    let searched = c.in_ok-flow.ensures.searched in
    let ended = c.in_ok-flow.ensures.ended in
    let near_is : c.in_ok-near.near.items ≡ map is_some levels = c.in_ok-near.ensures ∙ ap (map is_some) c.as_slice.ensures.value in
    let near : IsReach es xs c.args.source (members c.in_ok-near.near.items) =
    subst (λ (side : List Bool). IsReach es xs c.args.source (members side)) (sym near_is) (reach_from_levels es xs c.args.source levels searched.levelling (searched.closed ended)) in
    let far : IsReach es (left_over es xs) c.args.sink (members c.in_ok-far.far.items) =
    subst (λ (ys : List ℤ). IsReach es (left_over es ys) c.args.sink (members c.in_ok-far.far.items)) c.as_slice-2.ensures.value c.in_ok-far.ensures.reach in
    subst (IsMaximumFlow es c.args.nodes c.args.source c.args.sink) (sym c.new-2.ensures)
    (maximum_from_sides es c.args.source c.args.sink xs c.in_ok-flow.ensures.flow (blocked_from_levels searched ended) c.in_ok-near.near.items c.in_ok-far.far.items near far c.args.nodes
    (to_z w128 (of_z w128 c.in_ok-flow.flow.value))
    (omega (arith, ints, c.in_ok-flow.ensures.value))
    (omega (arith, ap (length {A = Bool}) near_is, length-map levels is_some, c.in_ok-flow.ensures.counted, c.in_ok-search.ensures))
    (omega (arith, c.in_ok-far.ensures.counted, c.in_ok-flow.ensures.counted, c.in_ok-search.ensures)))
