use Rattle.std.proofs.Common.{rules, arith, ◌≡◌, ◌+◌, List, ap, sym, ◌∙◌, subst, length, FitsSigned, of_z}
use Rattle.std.proofs.lemmas.Int.{to_z-of_z}
use Rattle.std.specs.Int.{w128}
use Rattle.std.specs.List.{All}
use Rattle.ofit_flow.specs.declared.edge.Edge.{Edge}
use Rattle.ofit_flow.specs.Maximum.{IsMaximumFlow}
use Rattle.ofit_flow.specs.Network.{CanAdd}
use Rattle.ofit_cut.specs.Sets.{total_size}
use Rattle.ofit_cut.specs.Balance.{AreBalanced}
use Rattle.ofit_cut.specs.Slack.{AreBases, balance_edges}
use Rattle.ofit_cut.proofs.Adding.{balance-can, balance-long}
use Rattle.ofit_cut.proofs.Rest.{turnover}
use Rattle.ofit_cut.proofs.Settled.{totals-turnover, turnover-fits, same_from_bits, ends_after, ends_in, apart_after, settled_flows, settled_above, settled_below}
use Rattle.ofit_cut.proofs.Sizes.{bases-size}
use Rattle.ofit_cut.proofs.settle.settle.Goals as goal

pub totals_of-totals-requires : goal.totals_of-totals-requires
totals_of-totals-requires c = omega (arith, ap total_size c.as_slice.ensures.value, bases-size c.args.spans.now c.in_ok-bases.bases.items c.in_ok-bases.ensures)

pub solve-requires-clause-few : goal.solve-requires-clause-few
solve-requires-clause-few c =
    let n = length c.args.spans.now in
    let es : c.in_ok-edges.edges.items ≡ balance_edges (ends_after (length c.args.spans.now)) (length c.args.spans.now) c.args.pairs.now c.args.spans.now c.as_slice-2.result.now = c.in_ok-edges.ensures in
    omega (arith, ap (length {A = Edge}) es, balance-long (ends_after n) n c.args.pairs.now c.args.spans.now c.as_slice-2.result.now)

pub solve-requires-clause-edges_in : goal.solve-requires-clause-edges_in
solve-requires-clause-edges_in c =
    let n = length c.args.spans.now in
    let es : c.in_ok-edges.edges.items ≡ balance_edges (ends_after (length c.args.spans.now)) (length c.args.spans.now) c.args.pairs.now c.args.spans.now c.as_slice-2.result.now = c.in_ok-edges.ensures in
    let bases : AreBases c.args.spans.now c.as_slice-2.result.now = subst (AreBases c.args.spans.now) (sym c.as_slice-2.ensures.value) c.in_ok-bases.ensures in
    subst (All (CanAdd (n + 3))) (sym es)
    (balance-can (n + 3) (ends_after n) n c.args.pairs.now c.args.spans.now c.as_slice-2.result.now (ends_in n) (omega arith) (apart_after n) c.requires.pairs_in bases c.requires.small)

pub overflow_add-totals : goal.overflow_add-totals
overflow_add-totals c =
    let spans = c.args.spans.now in
    let bases = c.in_ok-bases.bases.items in
    let totals = c.totals_of-totals.result in
    let supply_fits : FitsSigned w128 c.totals_of-totals.result.supply = search rules in
    let demand_fits : FitsSigned w128 c.totals_of-totals.result.demand = search rules in
    let sum = totals-turnover spans bases c.as_slice.result.now totals.supply totals.demand c.as_slice.ensures.value c.in_ok-bases.ensures c.totals_of-totals.ensures.supply c.totals_of-totals.ensures.demand in
    simp to_z-of_z (subst (FitsSigned w128) (sym sum) (turnover-fits spans bases c.in_ok-bases.ensures c.requires.small))

pub returns-then-value-totals : goal.returns-then-value-totals
returns-then-value-totals c =
    let spans = c.args.spans.now in
    let pairs = c.args.pairs.now in
    let n = length spans in
    let bases = c.in_ok-bases.bases.items in
    let totals = c.totals_of-totals.result in
    let supply_fits : FitsSigned w128 c.totals_of-totals.result.supply = search rules in
    let demand_fits : FitsSigned w128 c.totals_of-totals.result.demand = search rules in
    let value_fits : FitsSigned w128 c.value.result = search rules in
    let sum = totals-turnover spans bases c.as_slice.result.now totals.supply totals.demand c.as_slice.ensures.value c.in_ok-bases.ensures c.totals_of-totals.ensures.supply c.totals_of-totals.ensures.demand in
    let test = simp to_z-of_z at c.if-value-totals.true in
    let full : c.in_ok-flowed.flowed.value ≡ turnover c.in_ok-bases.bases.items (length c.args.spans.now) =
    sym c.value.ensures ∙ same_from_bits c.value.result (turnover bases n) value_fits (turnover-fits spans bases c.in_ok-bases.ensures c.requires.small) (test ∙ ap (of_z w128) sum) in
    subst (AreBalanced pairs spans) (sym c.in_ok-amounts.ensures) (settled_flows pairs spans bases c.requires.pairs_in c.in_ok-bases.ensures c.requires.small c.in_ok-flowed.flowed
    (subst (λ (es : List Edge). IsMaximumFlow es (n + 3) (n + 1) (n + 2) c.in_ok-flowed.flowed)
    (c.in_ok-edges.ensures ∙ ap (balance_edges (ends_after n) n pairs spans) c.as_slice-2.ensures.value) c.in_ok-flowed.ensures) full)

pub returns-then-source_side : goal.returns-then-source_side
returns-then-source_side c =
    let spans = c.args.spans.now in
    let pairs = c.args.pairs.now in
    let n = length spans in
    let bases = c.in_ok-bases.bases.items in
    let totals = c.totals_of-totals.result in
    let supply_fits : FitsSigned w128 c.totals_of-totals.result.supply = search rules in
    let demand_fits : FitsSigned w128 c.totals_of-totals.result.demand = search rules in
    let sum = totals-turnover spans bases c.as_slice.result.now totals.supply totals.demand c.as_slice.ensures.value c.in_ok-bases.ensures c.totals_of-totals.ensures.supply c.totals_of-totals.ensures.demand in
    let test = simp to_z-of_z at c.if-value-totals.false in
    let less : (c.in_ok-flowed.flowed.value ≡ turnover c.in_ok-bases.bases.items (length c.args.spans.now) → ⊥) = λ e. test (ap (of_z w128) (c.value.ensures ∙ e ∙ sym sum)) in (
      c.in_ok-outside.ensures.listed,
      settled_below pairs spans bases c.requires.pairs_in c.in_ok-bases.ensures c.requires.small c.in_ok-flowed.flowed
          (subst (λ (es : List Edge). IsMaximumFlow es (n + 3) (n + 1) (n + 2) c.in_ok-flowed.flowed)
          (c.in_ok-edges.ensures ∙ ap (balance_edges (ends_after n) n pairs spans) c.as_slice-2.ensures.value) c.in_ok-flowed.ensures)
          less (sym c.source_side.ensures ∙ c.if-source_side.true) c.in_ok-outside.outside c.in_ok-outside.ensures.same,
    )

pub returns : goal.returns
returns c =
    let spans = c.args.spans.now in
    let pairs = c.args.pairs.now in
    let n = length spans in
    let bases = c.in_ok-bases.bases.items in
    let totals = c.totals_of-totals.result in
    let supply_fits : FitsSigned w128 c.totals_of-totals.result.supply = search rules in
    let demand_fits : FitsSigned w128 c.totals_of-totals.result.demand = search rules in
    let sum = totals-turnover spans bases c.as_slice.result.now totals.supply totals.demand c.as_slice.ensures.value c.in_ok-bases.ensures c.totals_of-totals.ensures.supply c.totals_of-totals.ensures.demand in
    let test = simp to_z-of_z at c.if-value-totals.false in
    let less : (c.in_ok-flowed.flowed.value ≡ turnover c.in_ok-bases.bases.items (length c.args.spans.now) → ⊥) = λ e. test (ap (of_z w128) (c.value.ensures ∙ e ∙ sym sum)) in (
      c.in_ok-inside.ensures.listed,
      settled_above pairs spans bases c.requires.pairs_in c.in_ok-bases.ensures c.requires.small c.in_ok-flowed.flowed
          (subst (λ (es : List Edge). IsMaximumFlow es (n + 3) (n + 1) (n + 2) c.in_ok-flowed.flowed)
          (c.in_ok-edges.ensures ∙ ap (balance_edges (ends_after n) n pairs spans) c.as_slice-2.ensures.value) c.in_ok-flowed.ensures)
          less (sym c.source_side.ensures ∙ c.if-source_side.false) c.in_ok-inside.inside c.in_ok-inside.ensures.same,
    )
