use Rattle.std.proofs.Common.{◌≡◌, ◌<◌, ◌∙◌, get_or, rules, FitsSigned, to_z, of_z}
use Rattle.std.proofs.lemmas.Int.{to_z-of_z}
use Rattle.std.proofs.lemmas.List.{length-set}
use Rattle.std.specs.Int.{w128}
use Rattle.ofit_sides.proofs.Flows.{flow_written}
use Rattle.ofit_sides.proofs.steps.leaving_of.Goals as goal

pub loop-index-preserved : goal.loop-index-preserved
loop-index-preserved c =
    let pairs = c.args.pairs.now in
    let amounts = c.args.amounts.now in
    let i = c.loop-index.index in
    let low : (get_or pairs i (0, 0)).0 < c.args.count = (c.requires.within i (0, 0) c.loop-index-test.true).0 in
    let fits : FitsSigned w128 c.amount.result = search rules in
    let plain : to_z w128 (of_z w128 c.amount.result) ≡ c.amount.result = to_z-of_z w128 c.amount.result fits in
    record {
      count = length-set c.loop-index.flows.items (get_or pairs i (0, 0)).0 (to_z w128 (of_z w128 c.amount.result)) ∙ c.loop-index.invariant.count;
      each = flow_written pairs amounts c.loop-index.flows.items i c.args.count (to_z w128 (of_z w128 c.amount.result)) c.loop-index-test.true c.requires.counted c.requires.rising c.loop-index.invariant.count low (plain ∙ c.amount.ensures) c.loop-index.invariant.each;
    }
