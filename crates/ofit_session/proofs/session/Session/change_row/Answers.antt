use Rattle.std.proofs.Common.{◌≡◌, sym, ap, subst, arith}
use Rattle.std.proofs.lemmas.List.Elements.{Contains-get_or}
use Rattle.ofit_order.proofs.Forming.{member_inside}
use Rattle.ofit_fit.specs.Counted.{HasComponentCount}
use Rattle.ofit_fit.specs.OrderOf.{IsOrderOf}
use Rattle.ofit_fit.proofs.Closed.{distinct_from_increasing}
use Rattle.ofit_fit.proofs.Fitted.{count_of_order}
use Rattle.ofit_study.specs.declared.edit.Edit.{Edit}
use Rattle.ofit_study.specs.Change.{IsChangeFor, IsChangeOf, changed}
use Rattle.ofit_study.specs.Edited.{IsAccepted}
use Rattle.ofit_study.specs.Study.{Study, problem_stated}
use Rattle.ofit_session.specs.Fitted.{Fitted}
use Rattle.ofit_session.specs.Refit.{IsRefit}
use Rattle.ofit_session.specs.CountsAtMost.{CountsAtMost}
use Rattle.ofit_session.proofs.Changed.{IsOwn, order_after, order_kept, own_of, refit_fits, row_counted, row_refit}
use Rattle.ofit_session.proofs.session.Session.change_row.Goals as goal

pub fit_component-requires-clause-order : goal.fit_component-requires-clause-order
fit_component-requires-clause-order c =
    let same : c.self.inside.study ≡ c.args.self.now.study = ap (λ (f : Fitted). f.study) c.self.view_is in
    let h : IsChangeOf c.self.inside.study c.args.change = subst (λ (t : Study). IsChangeOf t c.args.change) (sym same) c.requires.change in
    let of : IsOrderOf c.self.inside.order (problem_stated (changed c.self.inside.study c.args.change)) = order_kept c.self.inside.study c.args.change h c.self.inside.order c.self.invariant.1 in
    subst (λ (t : Study). IsOrderOf c.self.inside.order (problem_stated t)) (sym c.exchange.ensures.put) of

pub returns-in-Err-clause-limited : goal.returns-in-Err-clause-limited
returns-in-Err-clause-limited c =
    let i = c.self.inside in
    let own : IsOwn i.study c.args.change i.order c.component_of-component.result = own_of i.study c.args.self.now.study (ap (λ (f : Fitted). f.study) c.self.view_is) c.args.change c.requires.change i.order c.component_count-components.ensures.within c.self.invariant.1 c.component_of-component.result _ c.place.ensures c.component_of-component.ensures.number c.component_of-component.ensures.only in
    subst (λ (t : Study). (edit : Edit) → IsAccepted t edit → IsChangeFor t edit c.args.change → CountsAtMost t edit c.args.tally.now c.fit_component.new.tally) (ap (λ (f : Fitted). f.study) c.self.view_is)
    (λ edit accepted for. row_counted i.study c.args.change i.order c.component_of-component.result own edit accepted for c.args.tally.now c.fit_component.new.tally c.fit_component.ensures.counted)

pub put_values-requires-clause-inside : goal.put_values-requires-clause-inside
put_values-requires-clause-inside c =
    λ k d l. omega (
      arith,
      c.self.invariant.0.count,
      c.self.invariant.1.places,
      member_inside c.self.inside.order _ c.members-members.result.now c.members-members.ensures.members _ (Contains-get_or c.members-members.result.now k d l),
    )

pub put_values-requires-clause-distinct : goal.put_values-requires-clause-distinct
put_values-requires-clause-distinct c =
    distinct_from_increasing c.members-members.result.now c.members-members.ensures.members.rising

pub invariant_of-self-2 : goal.invariant_of-self-2
invariant_of-self-2 c =
    let i = c.self.inside in
    let own : IsOwn i.study c.args.change i.order c.component_of-component.result = own_of i.study c.args.self.now.study (ap (λ (f : Fitted). f.study) c.self.view_is) c.args.change c.requires.change i.order c.component_count-components.ensures.within c.self.invariant.1 c.component_of-component.result _ c.place.ensures c.component_of-component.ensures.number c.component_of-component.ensures.only in
    let e = c.component_count-components.ensures in (
      refit_fits i.study c.args.change i.order c.component_of-component.result own c.keeps_limits.ensures.valid c.component_count-components.result (record { within = e.within; each = e.each; covers = e.covers; listed = e.listed }) i.values.items c.self.invariant.0
          c.members-members.result.now c.members-members.ensures.members _ c.as_slice.result.now c.put_values.new.into.items c.as_slice.ensures.value c.put_values.ensures c.exchange.new.self c.exchange.ensures.put (c.in-Ok.ensures.least_best c.members-members.result.now c.members-members.ensures.members),
      order_after i.study c.args.change i.order c.component_of-component.result own c.exchange.new.self c.exchange.ensures.put,
    )

pub returns-clause-fit : goal.returns-clause-fit
returns-clause-fit c =
    let i = c.self.inside in
    let own : IsOwn i.study c.args.change i.order c.component_of-component.result = own_of i.study c.args.self.now.study (ap (λ (f : Fitted). f.study) c.self.view_is) c.args.change c.requires.change i.order c.component_count-components.ensures.within c.self.invariant.1 c.component_of-component.result _ c.place.ensures c.component_of-component.ensures.number c.component_of-component.ensures.only in
    let e = c.component_count-components.ensures in
    refit_fits i.study c.args.change i.order c.component_of-component.result own c.keeps_limits.ensures.valid c.component_count-components.result (record { within = e.within; each = e.each; covers = e.covers; listed = e.listed }) i.values.items c.self.invariant.0
    c.members-members.result.now c.members-members.ensures.members _ c.as_slice.result.now c.put_values.new.into.items c.as_slice.ensures.value c.put_values.ensures c.exchange.new.self c.exchange.ensures.put (c.in-Ok.ensures.least_best c.members-members.result.now c.members-members.ensures.members)

pub returns-clause-refitted : goal.returns-clause-refitted
returns-clause-refitted c =
    let i = c.self.inside in
    let own : IsOwn i.study c.args.change i.order c.component_of-component.result = own_of i.study c.args.self.now.study (ap (λ (f : Fitted). f.study) c.self.view_is) c.args.change c.requires.change i.order c.component_count-components.ensures.within c.self.invariant.1 c.component_of-component.result _ c.place.ensures c.component_of-component.ensures.number c.component_of-component.ensures.only in
    subst (λ (u : Study). (edit : Edit) → IsChangeFor c.args.self.now.study edit c.args.change → IsRefit c.args.self.now.study edit u 1) (sym c.exchange.ensures.put)
    (subst (λ (t : Study). (edit : Edit) → IsChangeFor t edit c.args.change → IsRefit t edit (changed i.study c.args.change) 1) (ap (λ (f : Fitted). f.study) c.self.view_is) (λ edit for. row_refit i.study c.args.change i.order c.component_of-component.result own edit for))

pub returns-clause-components : goal.returns-clause-components
returns-clause-components c =
    let same : c.self.inside.study ≡ c.args.self.now.study = ap (λ (f : Fitted). f.study) c.self.view_is in
    let h : IsChangeOf c.self.inside.study c.args.change = subst (λ (t : Study). IsChangeOf t c.args.change) (sym same) c.requires.change in
    let of : IsOrderOf c.self.inside.order (problem_stated (changed c.self.inside.study c.args.change)) = order_kept c.self.inside.study c.args.change h c.self.inside.order c.self.invariant.1 in
    subst (λ (u : Study). HasComponentCount (problem_stated u) c.component_count-components.result) (sym c.exchange.ensures.put)
    (count_of_order c.self.inside.order (problem_stated (changed c.self.inside.study c.args.change)) c.component_count-components.result of c.component_count-components.ensures.count)
