use Rattle.std.proofs.Common.{◌∙◌, ◌*◌, ◌^◌, ◌≤◌, ℕ, List, length, sym, ap, subst, arith}
use Rattle.std.specs.Prelude.{All}
use Rattle.ofit_num.specs.Pairs.{chain_pairs}
use Rattle.ofit_num.specs.Tight.{tight_among}
use Rattle.ofit_cut.specs.declared.span.Span.{Span}
use Rattle.ofit_cut.specs.Sets.{AreWithin}
use Rattle.ofit_cut.specs.Span.{IsOrdered, total_span}
use Rattle.ofit_sides.proofs.Neighbours.{tight_within, tight_few}
use Rattle.ofit_sides.proofs.Ready.{spans_counted, ordered_ready, small_ready}
use Rattle.ofit_sides.proofs.chain.balance_of.Goals as goal

pub balance_flow-requires-clause-pairs_in : goal.balance_flow-requires-clause-pairs_in
balance_flow-requires-clause-pairs_in c =
    let fs = c.args.values.now in
    let long = ap (λ (spans : List Span). length spans) c.as_slice.ensures.value ∙ spans_counted c.args.groups.now c.requires.fittable fs c.requires.inside c.requires.whole c.in_ok-spans.spans.items c.in_ok-spans.ensures in
    subst (λ (pairs : List (ℕ × ℕ)). AreWithin pairs (length c.as_slice.result.now)) (sym c.requires.tight)
    (subst (AreWithin (tight_among fs (chain_pairs (length fs)))) (sym long) (tight_within fs))

pub balance_flow-requires-clause-few_nodes : goal.balance_flow-requires-clause-few_nodes
balance_flow-requires-clause-few_nodes c =
    let fs = c.args.values.now in
    let long = ap (λ (spans : List Span). length spans) c.as_slice.ensures.value ∙ spans_counted c.args.groups.now c.requires.fittable fs c.requires.inside c.requires.whole c.in_ok-spans.spans.items c.in_ok-spans.ensures in
    omega (arith, long, c.requires.few)

pub balance_flow-requires-clause-few_pairs : goal.balance_flow-requires-clause-few_pairs
balance_flow-requires-clause-few_pairs c = omega (arith, ap length c.requires.tight, tight_few c.args.values.now, c.requires.few)

pub balance_flow-requires-clause-ordered : goal.balance_flow-requires-clause-ordered
balance_flow-requires-clause-ordered c = subst (All IsOrdered) (sym c.as_slice.ensures.value) (ordered_ready c.args.groups.now c.requires.fittable c.args.values.now c.requires.inside c.requires.whole c.in_ok-spans.spans.items c.in_ok-spans.ensures)

pub balance_flow-requires-clause-small : goal.balance_flow-requires-clause-small
balance_flow-requires-clause-small c =
    subst (λ (spans : List Span). total_span spans ≤ 2 * 10 ^ 33) (sym c.as_slice.ensures.value) (small_ready c.args.groups.now c.requires.fittable c.args.values.now c.requires.inside c.requires.whole c.in_ok-spans.spans.items c.in_ok-spans.ensures)
