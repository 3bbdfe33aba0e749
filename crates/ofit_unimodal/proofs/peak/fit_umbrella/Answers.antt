use Rattle.std.proofs.Common.{◌≡◌, ◌∙◌, ℕ, List, Option, length, map, ap, sym, refl, subst}
use Rattle.std.proofs.lemmas.List.FromFn.{length-map-range_with_len}
use Rattle.std.proofs.lemmas.List.{length-map}
use Rattle.std.proofs.lemmas.Result.{IfOk-weaker}
use Rattle.std.specs.Global.{Global}
use Rattle.std.specs.Prelude.{ℤ, Vec}
use Rattle.ofit_num.specs.Fit.{LeastBestValues}
use Rattle.ofit_num.specs.Fraction.{Fraction}
use Rattle.ofit_num.specs.Loss.{median}
use Rattle.ofit_num.specs.Settled.{IsLeastSettled}
use Rattle.ofit_num.specs.Trial.{trial_of}
use Rattle.ofit_sheet.specs.Unimodal.{umbrella_pairs}
use Rattle.ofit_tree.specs.declared.direction.Direction.TheVariants.{RootGreatest}
use Rattle.ofit_tree.specs.Tree.{tree_pairs, tree_problem, IsRootedTree}
use Rattle.ofit_unimodal.specs.Umbrella.{umbrella_parent}
use Rattle.ofit_sides.specs.Values.{whole_fraction}
use Rattle.ofit_unimodal.proofs.UmbrellaFit.{least_fit, fitted_whole}
use Rattle.ofit_unimodal.proofs.peak.fit_umbrella.Goals as goal

pub fit_tree-requires-clause-one_each : goal.fit_tree-requires-clause-one_each
fit_tree-requires-clause-one_each c = ap (λ (ps : List (Option ℕ)). length ps) (c.as_slice.ensures.value ∙ c.in_ok-parents.ensures.parents) ∙ length-map-range_with_len (umbrella_parent c.args.peak) 0 c.count.result ∙ c.count.ensures

pub fit_tree-requires-clause-rooted : goal.fit_tree-requires-clause-rooted
fit_tree-requires-clause-rooted c = subst IsRootedTree (sym c.as_slice.ensures.value) c.in_ok-parents.ensures.rooted

pub whole_values-requires : goal.whole_values-requires
whole_values-requires c =
    let fs = c.as_slice-2.result.now in
    let settled : IsLeastSettled median (tree_problem RootGreatest c.args.groups.now c.as_slice.result.now) (trial_of fs) =
    subst (λ (gs : List Fraction). IsLeastSettled median (tree_problem RootGreatest c.args.groups.now c.as_slice.result.now) (trial_of gs)) (sym c.as_slice-2.ensures.value) (c.in_ok-values.ensures.least_settled refl) in
    least_fit c.args.groups.now c.args.peak c.as_slice.result.now c.requires.fittable fs (c.as_slice-2.ensures.len ∙ c.in_ok-values.ensures.count) settled

pub returns-clause-count : goal.returns-clause-count
returns-clause-count c =
    IfOk-weaker c.whole_values.result _ _
    (λ (v : Vec ℤ Global) (e : c.as_slice-2.result.now ≡ map whole_fraction v.items). sym (length-map v.items whole_fraction) ∙ ap (λ (fs : List Fraction). length fs) (sym e) ∙ c.as_slice-2.ensures.len ∙ c.in_ok-values.ensures.count)
    c.whole_values.ensures.whole

pub returns-clause-least_best : goal.returns-clause-least_best
returns-clause-least_best c =
    let fs = c.as_slice-2.result.now in
    let parents = c.as_slice.result.now in
    let pairs : tree_pairs RootGreatest parents ≡ umbrella_pairs c.args.peak (length c.args.groups.now) = ap (tree_pairs RootGreatest) c.as_slice.ensures.value ∙ c.in_ok-parents.ensures.pairs ∙ ap (umbrella_pairs c.args.peak) c.count.ensures in
    let best : LeastBestValues median (tree_problem RootGreatest c.args.groups.now parents) fs =
    subst (λ (gs : List Fraction). LeastBestValues median (tree_problem RootGreatest c.args.groups.now parents) gs) (sym c.as_slice-2.ensures.value) c.in_ok-values.ensures.least_best in
    IfOk-weaker c.whole_values.result _ _
    (λ (v : Vec ℤ Global) (e : fs ≡ map whole_fraction v.items). fitted_whole c.args.groups.now c.args.peak parents c.requires.peak pairs fs v.items best e)
    c.whole_values.ensures.whole
