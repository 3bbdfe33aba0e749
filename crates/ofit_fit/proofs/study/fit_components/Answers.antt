use Rattle.std.proofs.Common.{ℕ, ◌≡◌, List, length, arith, subst, sym, ap, ◌∙◌}
use Rattle.std.proofs.lemmas.List.Elements.{Contains-get_or}
use Rattle.ofit_num.specs.Fit.{LeastBestValues}
use Rattle.ofit_num.specs.Fraction.{Fraction}
use Rattle.ofit_study.specs.Study.{problem_stated, meaning_of}
use Rattle.ofit_order.proofs.Forming.{member_inside}
use Rattle.ofit_fit.specs.Part.{part_of}
use Rattle.ofit_fit.specs.Counted.{HasComponentCount}
use Rattle.ofit_fit.proofs.Closed.{distinct_from_increasing}
use Rattle.ofit_fit.proofs.Fitted.{fitted_none, fitted_more, fitted_all, count_of_order, one_count, at_any}
use Rattle.ofit_fit.proofs.Counts.{AreCounted, counted_none, counted_more, counted_most, counted_grown, counted_all, counted_within, one_cut}
use Rattle.ofit_fit.proofs.Components.{HasComponents, from_parts}
use Rattle.ofit_span.proofs.StatedLosses.{stated_scaling}
use Rattle.ofit_fit.proofs.study.fit_components.Goals as goal

pub loop-component-init : goal.loop-component-init
loop-component-init c = (fitted_none c.args.order.now (meaning_of c.args.study.now.settings.loss) (problem_stated c.args.study.now) c.args.fitted.items (omega (arith, c.requires.as_long)), omega arith, counted_none c.args.order.now c.args.tally.now.cuts)

pub fit_component-requires-clause-room : goal.fit_component-requires-clause-room
fit_component-requires-clause-room c = omega (arith, c.loop-component.invariant.1, c.requires.room)

pub fit_component-requires-clause-room_for_cuts : goal.fit_component-requires-clause-room_for_cuts
fit_component-requires-clause-room_for_cuts c = omega (arith, counted_most c.args.order.now c.loop-component.component c.args.tally.now.cuts c.loop-component.tally.cuts c.loop-component.invariant.2, c.requires.room_for_cuts)

pub returns-in_err-values-clause-limited : goal.returns-in_err-values-clause-limited
returns-in_err-values-clause-limited c = at_any c.from_residual.result (λ n h.
    let one = one_count (problem_stated c.args.study.now) n c.component_count-component-end.result h (count_of_order c.args.order.now (problem_stated c.args.study.now) c.component_count-component-end.result c.requires.order c.component_count-component-end.ensures.count) in
    omega (arith, one, c.in_err-values.ensures.counted, c.loop-component.invariant.1))

pub returns-in_err-values-clause-grown : goal.returns-in_err-values-clause-grown
returns-in_err-values-clause-grown c = omega (arith, c.in_err-values.ensures.counted, c.loop-component.invariant.1)

pub returns-in_err-values-clause-limited_cuts : goal.returns-in_err-values-clause-limited_cuts
returns-in_err-values-clause-limited_cuts c = at_any c.from_residual.result
    (counted_within c.args.order.now (problem_stated c.args.study.now) c.component_count-component-end.result c.loop-component.component c.args.tally.now.cuts c.loop-component.tally.cuts c.fit_component.new.tally.cuts c.in_err-values.ensures.cuts.form
    c.requires.order c.component_count-component-end.ensures.count (omega arith) c.loop-component.invariant.2 c.in_err-values.ensures.cuts.has c.in_err-values.ensures.cuts.most)

pub returns-in_err-values-clause-grown_cuts : goal.returns-in_err-values-clause-grown_cuts
returns-in_err-values-clause-grown_cuts c = omega (arith, c.in_err-values.ensures.cuts.grown, counted_grown c.args.order.now c.loop-component.component c.args.tally.now.cuts c.loop-component.tally.cuts c.loop-component.invariant.2)

pub put_values-requires-clause-as_long : goal.put_values-requires-clause-as_long
put_values-requires-clause-as_long c = ap (λ (vs : List Fraction). length vs) c.as_slice.ensures.value ∙ (c.in_ok-values.ensures.least_best c.members.result.now c.members.ensures.members).count

pub put_values-requires-clause-inside : goal.put_values-requires-clause-inside
put_values-requires-clause-inside c = λ k d l. omega (
  arith,
  c.loop-component.invariant.0.count,
  c.requires.order.places,
  member_inside c.args.order.now c.loop-component.component c.members.result.now c.members.ensures.members _ (Contains-get_or c.members.result.now k d l),
)

pub put_values-requires-clause-distinct : goal.put_values-requires-clause-distinct
put_values-requires-clause-distinct c = distinct_from_increasing c.members.result.now c.members.ensures.members.rising

pub loop-component-preserved : goal.loop-component-preserved
loop-component-preserved c =
    let m = meaning_of c.args.study.now.settings.loss in
    let s = problem_stated c.args.study.now in
    let low : LeastBestValues m (part_of s c.members.result.now) c.as_slice.result.now =
    subst (λ (vs : List Fraction). LeastBestValues m (part_of s c.members.result.now) vs) (sym c.as_slice.ensures.value) (c.in_ok-values.ensures.least_best c.members.result.now c.members.ensures.members) in (
      fitted_more c.args.order.now m s c.loop-component.component c.members.result.now c.as_slice.result.now c.loop-component.fitted.items c.put_values.new.into.items c.members.ensures.members low c.put_values.ensures c.loop-component.invariant.0,
      omega (arith, c.in_ok-values.ensures.counted, c.loop-component.invariant.1),
      counted_more c.args.order.now c.loop-component.component c.args.tally.now.cuts c.loop-component.tally.cuts c.fit_component.new.tally.cuts c.in_ok-values.ensures.cuts.form c.loop-component.invariant.2 c.in_ok-values.ensures.cuts.has c.in_ok-values.ensures.cuts.counted,
    )

pub returns-clause-least_best : goal.returns-clause-least_best
returns-clause-least_best c =
    let e = c.component_count-component-end.ensures in
    let m = meaning_of c.args.study.now.settings.loss in
    let s = problem_stated c.args.study.now in
    let has : HasComponents c.args.order.now c.component_count-component-end.result = record { within = e.within; each = e.each; covers = e.covers; listed = e.listed } in
    from_parts c.args.order.now c.component_count-component-end.result has m s c.requires.order (stated_scaling c.args.study.now c.keeps_limits.ensures.valid c.args.study.now.settings.loss) c.loop-component.fitted.items
    (fitted_all c.args.order.now m s c.loop-component.component c.component_count-component-end.result c.loop-component.fitted.items e.count (omega arith) c.loop-component.invariant.0)

pub returns-clause-counted : goal.returns-clause-counted
returns-clause-counted c =
    let s = problem_stated c.args.study.now in
    let n = c.component_count-component-end.result in
    let same : n ≡ c.loop-component.component = omega arith in
    (c.loop-component.component, subst (HasComponentCount s) same (count_of_order c.args.order.now s n c.requires.order c.component_count-component-end.ensures.count), c.loop-component.invariant.1)

pub returns-clause-grown : goal.returns-clause-grown
returns-clause-grown c = omega (arith, c.loop-component.invariant.1)

pub returns-clause-cuts : goal.returns-clause-cuts
returns-clause-cuts c =
    let n = c.component_count-component-end.result in
    let same : c.loop-component.component ≡ n = omega arith in
    counted_all c.args.order.now (problem_stated c.args.study.now) n c.args.tally.now.cuts c.loop-component.tally.cuts c.requires.order c.component_count-component-end.ensures.count
    (subst (λ (k : ℕ). AreCounted c.args.order.now k c.args.tally.now.cuts c.loop-component.tally.cuts) same c.loop-component.invariant.2)

pub returns-clause-grown_cuts : goal.returns-clause-grown_cuts
returns-clause-grown_cuts c = counted_grown c.args.order.now c.loop-component.component c.args.tally.now.cuts c.loop-component.tally.cuts c.loop-component.invariant.2

pub returns-in_err-values-clause-fewer_cuts : goal.returns-in_err-values-clause-fewer_cuts
returns-in_err-values-clause-fewer_cuts c = omega (
  arith,
  c.in_err-values.ensures.counted,
  c.in_err-values.ensures.cuts.most,
  one_cut c.in_err-values.ensures.cuts.form,
  c.loop-component.invariant.1,
  counted_most c.args.order.now c.loop-component.component c.args.tally.now.cuts c.loop-component.tally.cuts c.loop-component.invariant.2,
)

pub returns-clause-fewer_cuts : goal.returns-clause-fewer_cuts
returns-clause-fewer_cuts c = omega (arith, c.loop-component.invariant.1, counted_most c.args.order.now c.loop-component.component c.args.tally.now.cuts c.loop-component.tally.cuts c.loop-component.invariant.2)
