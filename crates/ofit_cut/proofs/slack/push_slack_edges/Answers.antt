use Rattle.std.proofs.Common.{rules, arith, ap, ◌∙◌, FitsSigned, to_z, of_z}
use Rattle.std.proofs.lemmas.Int.{to_z-of_z}
use Rattle.std.specs.Int.{w128}
use Rattle.ofit_cut.specs.Sets.{weight_at}
use Rattle.ofit_cut.specs.Span.{span_at}
use Rattle.ofit_cut.specs.Slack.{rise, fall}
use Rattle.ofit_cut.proofs.Sizes.{span-le}
use Rattle.ofit_cut.proofs.Slacks.{slack_more}
use Rattle.ofit_cut.proofs.slack.push_slack_edges.Goals as goal

pub loop-node-preserved : goal.loop-node-preserved
loop-node-preserved c =
    let spans = c.args.spans.now in
    let bases = c.args.bases.now in
    let n = c.loop-node.node in
    let base_fits : FitsSigned w128 (weight_at bases n) = search rules in
    let rise_fits : FitsSigned w128 c.rise.result = search rules in
    let fall_fits : FitsSigned w128 c.fall.result = search rules in
    slack_more c.args.hub spans bases n c.args.edges.now.items c.loop-node.edges.items c.push.new.self.items c.push-in-loop-node.new.self.items
    (to_z w128 (of_z w128 c.rise.result)) (to_z w128 (of_z w128 c.fall.result)) c.loop-node.invariant c.in_ok-push.ensures.items c.in_ok-push-2.ensures.items
    (to_z-of_z w128 c.rise.result rise_fits ∙ c.rise.ensures ∙ ap (rise (span_at spans n).greatest) (to_z-of_z w128 (weight_at bases n) base_fits))
    (to_z-of_z w128 c.fall.result fall_fits ∙ c.fall.ensures ∙ ap (fall (span_at spans n).least) (to_z-of_z w128 (weight_at bases n) base_fits))

pub rise-requires-clause-small : goal.rise-requires-clause-small
rise-requires-clause-small c = omega (arith, span-le c.args.spans.now c.loop-node.node c.loop-node-test.true, c.requires.small)

pub fall-requires-clause-small : goal.fall-requires-clause-small
fall-requires-clause-small c = omega (arith, span-le c.args.spans.now c.loop-node.node c.loop-node-test.true, c.requires.small)
