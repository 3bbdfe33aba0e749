use Rattle.std.proofs.Common.{List, length, arith, subst, sym, ap, ◌∙◌, get_or}
use Rattle.std.proofs.lemmas.List.Elements.{Contains-get_or}
use Rattle.ofit_num.specs.Fit.{LeastBestValues}
use Rattle.ofit_num.specs.Fraction.{Fraction}
use Rattle.ofit_study.specs.Study.{problem_stated, meaning_of}
use Rattle.ofit_order.proofs.Forming.{member_inside}
use Rattle.ofit_fit.specs.Part.{part_of}
use Rattle.ofit_fit.proofs.Closed.{distinct_from_increasing}
use Rattle.ofit_fit.proofs.Components.{HasComponents, from_parts}
use Rattle.ofit_fit.proofs.Counts.{one_cut}
use Rattle.ofit_span.proofs.StatedLosses.{stated_scaling}
use Rattle.ofit_session.proofs.Refitting.{fitted_step, fitted_whole}
use Rattle.ofit_session.proofs.refit.refitted.Goals as goal

pub put_values-requires-clause-as_long : goal.put_values-requires-clause-as_long
put_values-requires-clause-as_long c = ap (λ (vs : List Fraction). length vs) c.as_slice.ensures.value ∙ (c.in_ok-picked.ensures.least_best c.members.result.now c.members.ensures.members).count

pub put_values-requires-clause-inside : goal.put_values-requires-clause-inside
put_values-requires-clause-inside c = λ k d l. omega (
  arith,
  c.loop-component.invariant.0.count,
  c.requires.order.places,
  member_inside c.args.order.now _ c.members.result.now c.members.ensures.members _ (Contains-get_or c.members.result.now k d l),
)

pub put_values-requires-clause-distinct : goal.put_values-requires-clause-distinct
put_values-requires-clause-distinct c = distinct_from_increasing c.members.result.now c.members.ensures.members.rising

pub returns-clause-fit : goal.returns-clause-fit
returns-clause-fit c =
    let e = c.component_count-components.ensures in
    let m = meaning_of c.args.study.now.settings.loss in
    let s = problem_stated c.args.study.now in
    let has : HasComponents c.args.order.now c.component_count-components.result = record { within = e.within; each = e.each; covers = e.covers; listed = e.listed } in
    from_parts c.args.order.now c.component_count-components.result has m s c.requires.order (stated_scaling c.args.study.now c.keeps_limits.ensures.valid c.args.study.now.settings.loss) c.loop-component.values.items
    (fitted_whole c.args.order.now m s c.args.components.now c.loop-component.component-index c.loop-component.values.items (omega arith) c.loop-component.invariant.0)

pub members-requires : goal.members-requires
members-requires c =
    let xs = c.args.components.now in
    let i = c.loop-component.component-index in
    c.requires.known (get_or xs i 0) (Contains-get_or xs i 0 c.loop-component-test.true)

pub loop-component-preserved : goal.loop-component-preserved
loop-component-preserved c =
    let m = meaning_of c.args.study.now.settings.loss in
    let s = problem_stated c.args.study.now in
    let low : LeastBestValues m (part_of s c.members.result.now) c.as_slice.result.now =
    subst (λ (vs : List Fraction). LeastBestValues m (part_of s c.members.result.now) vs) (sym c.as_slice.ensures.value) (c.in_ok-picked.ensures.least_best c.members.result.now c.members.ensures.members) in
    let cuts = c.in_ok-picked.ensures.cuts in (
      fitted_step c.args.order.now m s c.args.components.now c.loop-component.component-index c.members.result.now c.as_slice.result.now c.loop-component.values.items c.put_values.new.into.items c.loop-component-test.true c.members.ensures.members low c.put_values.ensures c.loop-component.invariant.0,
      omega (arith, c.in_ok-picked.ensures.counted, c.loop-component.invariant.1),
      omega (arith, cuts.grown, c.loop-component.invariant.2),
      omega (arith, c.in_ok-picked.ensures.counted, cuts.most, one_cut cuts.form, c.loop-component.invariant.3),
    )
