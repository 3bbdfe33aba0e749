use Rattle.std.proofs.Common.{rules, arith, ◌≡◌, ◌++◌, ℕ, ℤ, List, [], ◌∷◌, ap, ◌∙◌, length, FitsSigned, to_z, of_z}
use Rattle.std.proofs.lemmas.Int.{to_z-of_z}
use Rattle.std.specs.Int.{w128}
use Rattle.ofit_flow.specs.declared.edge.Edge.{Edge}
use Rattle.ofit_cut.specs.Sets.{weight_at}
use Rattle.ofit_cut.specs.Edges.{pair_edges, weight_edges}
use Rattle.ofit_cut.specs.Slack.{slack_edges, supply, demand}
use Rattle.ofit_cut.proofs.Sizes.{bases-size, weights-small}
use Rattle.ofit_cut.proofs.Slacks.{whole}
use Rattle.ofit_cut.proofs.slack.balance_edges.Goals as goal

pub totals_of-totals-requires : goal.totals_of-totals-requires
totals_of-totals-requires c = omega (arith, bases-size c.args.spans.now c.args.bases.now c.requires.bases)

pub push_weight_edges-requires-clause-small : goal.push_weight_edges-requires-clause-small
push_weight_edges-requires-clause-small c = weights-small c.args.bases.now (omega (arith, bases-size c.args.spans.now c.args.bases.now c.requires.bases))

pub returns : goal.returns
returns c =
    let spans = c.args.spans.now in
    let bases = c.args.bases.now in
    let ends = c.args.ends in
    let n = length spans in
    let long : length bases ≡ n = c.requires.bases.counted in
    let given : FitsSigned w128 c.totals_of-totals.result.supply = search rules in
    let taken : FitsSigned w128 c.totals_of-totals.result.demand = search rules in
    let supply_is : to_z w128 (of_z w128 c.totals_of-totals.result.supply) ≡ supply bases n = to_z-of_z w128 c.totals_of-totals.result.supply given ∙ c.totals_of-totals.ensures.supply ∙ ap (supply bases) long in
    let demand_is : to_z w128 (of_z w128 c.totals_of-totals.result.demand) ≡ demand bases n = to_z-of_z w128 c.totals_of-totals.result.demand taken ∙ c.totals_of-totals.ensures.demand ∙ ap (demand bases) long in
    let p = pair_edges ends c.args.pairs.now in
    let w = weight_edges ends (weight_at bases) n in
    let s = slack_edges c.args.hub spans bases n in
    whole p w s c.push_weight_edges.new.edges.items c.push_slack_edges.new.edges.items c.push.new.self.items c.push-2.new.self.items
    (record { from = ends.source; to = c.args.hub; cap = to_z w128 (of_z w128 c.totals_of-totals.result.demand) }) (record { from = c.args.hub; to = ends.sink; cap = to_z w128 (of_z w128 c.totals_of-totals.result.supply) })
    (c.in_ok-push_weight_edges.ensures ∙ ap (λ (es : List Edge). es ++ weight_edges ends (weight_at bases) (length bases)) c.in_ok-edges.ensures ∙ ap (λ (k : ℕ). p ++ weight_edges ends (weight_at bases) k) long)
    c.in_ok-push_slack_edges.ensures c.in_ok-push.ensures.items c.in_ok-push-2.ensures.items
    ∙ ap (λ (z : ℤ). p ++ (w ++ (s ++ record { from = ends.source; to = c.args.hub; cap = z } ∷ record { from = c.args.hub; to = ends.sink; cap = to_z w128 (of_z w128 c.totals_of-totals.result.supply) } ∷ []))) demand_is
    ∙ ap (λ (z : ℤ). p ++ (w ++ (s ++ record { from = ends.source; to = c.args.hub; cap = demand bases n } ∷ record { from = c.args.hub; to = ends.sink; cap = z } ∷ []))) supply_is
