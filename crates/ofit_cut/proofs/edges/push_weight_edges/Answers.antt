use Rattle.std.proofs.Common.{rules, ap, ◌∙◌, FitsSigned, to_z, of_z}
use Rattle.std.proofs.lemmas.Int.{to_z-of_z}
use Rattle.std.specs.Int.{w128}
use Rattle.ofit_cut.specs.Sets.{weight_at}
use Rattle.ofit_cut.specs.Edges.{gain, loss}
use Rattle.ofit_cut.proofs.Slacks.{weight_more}
use Rattle.ofit_cut.proofs.edges.push_weight_edges.Goals as goal

pub loop-node-preserved : goal.loop-node-preserved
loop-node-preserved c =
    let weights = c.args.weights.now in
    let n = c.loop-node.node in
    let weight_fits : FitsSigned w128 (weight_at weights n) = search rules in
    let gain_fits : FitsSigned w128 c.gain.result = search rules in
    let loss_fits : FitsSigned w128 c.loss.result = search rules in
    weight_more c.args.ends (weight_at weights) n c.args.edges.now.items c.loop-node.edges.items c.push.new.self.items c.push-in-loop-node.new.self.items
    (to_z w128 (of_z w128 c.gain.result)) (to_z w128 (of_z w128 c.loss.result)) c.loop-node.invariant c.in_ok-push.ensures.items c.in_ok-push-2.ensures.items
    (to_z-of_z w128 c.gain.result gain_fits ∙ c.gain.ensures ∙ ap gain (to_z-of_z w128 (weight_at weights n) weight_fits))
    (to_z-of_z w128 c.loss.result loss_fits ∙ c.loss.ensures ∙ ap loss (to_z-of_z w128 (weight_at weights n) weight_fits))
