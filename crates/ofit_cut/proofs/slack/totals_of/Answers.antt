use Rattle.std.proofs.Common.{rules, arith, ◌≡◌, suc, ap, sym, ◌∙◌, subst, add-one, FitsSigned}
use Rattle.std.proofs.lemmas.Int.{ints, to_z-of_z}
use Rattle.std.specs.Int.{w128}
use Rattle.std.specs.Prelude.{◌+ℤ◌}
use Rattle.ofit_cut.specs.Sets.{weight_at}
use Rattle.ofit_cut.specs.Edges.{gain, loss}
use Rattle.ofit_cut.specs.Slack.{supply, demand}
use Rattle.ofit_cut.proofs.Sizes.{supply-fits, demand-fits}
use Rattle.ofit_cut.proofs.slack.totals_of.Goals as goal

pub overflow_add-totals : goal.overflow_add-totals
overflow_add-totals c =
    let ws = c.args.bases.now in
    let k = c.loop-base.base-index in
    let weight_fits : FitsSigned w128 (weight_at ws k) = search rules in
    let gained : c.gain.result ≡ gain (weight_at ws k) = c.gain.ensures ∙ ap gain (to_z-of_z w128 (weight_at ws k) weight_fits) in
    let sum : c.loop-base.totals.supply +ℤ c.gain.result ≡ supply ws (suc k) = omega (arith, ints, c.loop-base.invariant.supply, gained) in
    let so_far : FitsSigned w128 c.loop-base.totals.supply = search rules in
    let more : FitsSigned w128 c.gain.result = search rules in
    simp to_z-of_z (subst (FitsSigned w128) (sym sum) (supply-fits ws (suc k) (omega arith) c.requires))

pub overflow_add-totals-in-loop-base : goal.overflow_add-totals-in-loop-base
overflow_add-totals-in-loop-base c =
    let ws = c.args.bases.now in
    let k = c.loop-base.base-index in
    let weight_fits : FitsSigned w128 (weight_at ws k) = search rules in
    let lost : c.loss.result ≡ loss (weight_at ws k) = c.loss.ensures ∙ ap loss (to_z-of_z w128 (weight_at ws k) weight_fits) in
    let sum : c.loop-base.totals.demand +ℤ c.loss.result ≡ demand ws (suc k) = omega (arith, ints, c.loop-base.invariant.demand, lost) in
    let so_far : FitsSigned w128 c.loop-base.totals.demand = search rules in
    let more : FitsSigned w128 c.loss.result = search rules in
    simp to_z-of_z (subst (FitsSigned w128) (sym sum) (demand-fits ws (suc k) (omega arith) c.requires))

pub loop-base-preserved : goal.loop-base-preserved
loop-base-preserved c =
    let ws = c.args.bases.now in
    let k = c.loop-base.base-index in
    let weight_fits : FitsSigned w128 (weight_at ws k) = search rules in
    let gained : c.gain.result ≡ gain (weight_at ws k) = c.gain.ensures ∙ ap gain (to_z-of_z w128 (weight_at ws k) weight_fits) in
    let lost : c.loss.result ≡ loss (weight_at ws k) = c.loss.ensures ∙ ap loss (to_z-of_z w128 (weight_at ws k) weight_fits) in
    let given : c.loop-base.totals.supply +ℤ c.gain.result ≡ supply ws (suc k) = omega (arith, ints, c.loop-base.invariant.supply, gained) in
    let taken : c.loop-base.totals.demand +ℤ c.loss.result ≡ demand ws (suc k) = omega (arith, ints, c.loop-base.invariant.demand, lost) in
    let given_so_far : FitsSigned w128 c.loop-base.totals.supply = search rules in
    let given_more : FitsSigned w128 c.gain.result = search rules in
    let taken_so_far : FitsSigned w128 c.loop-base.totals.demand = search rules in
    let taken_more : FitsSigned w128 c.loss.result = search rules in
    let given_fits : FitsSigned w128 (c.loop-base.totals.supply +ℤ c.gain.result) = subst (FitsSigned w128) (sym given) (supply-fits ws (suc k) (omega arith) c.requires) in
    let taken_fits : FitsSigned w128 (c.loop-base.totals.demand +ℤ c.loss.result) = subst (FitsSigned w128) (sym taken) (demand-fits ws (suc k) (omega arith) c.requires) in
    record {
      supply = simp to_z-of_z (given ∙ ap (supply ws) (sym (add-one k)));
      demand = simp to_z-of_z (taken ∙ ap (demand ws) (sym (add-one k)));
    }
