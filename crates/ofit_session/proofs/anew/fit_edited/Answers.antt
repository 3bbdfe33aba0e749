use Rattle.std.proofs.Common.{◌∙◌, ℕ, List, inr, refl, sym, ap, subst, arith, length}
use Rattle.std.specs.Prelude.{Contains}
use Rattle.ofit_fit.proofs.Fitted.{at_any, count_of_order}
use Rattle.ofit_study.specs.Edited.{touched}
use Rattle.ofit_study.specs.Study.{problem_stated}
use Rattle.ofit_session.specs.Refit.{IsRefit}
use Rattle.ofit_session.proofs.Untouched.{touched_known, untouched_fitted}
use Rattle.ofit_study.proofs.Places.{group_count}
use Rattle.ofit_session.proofs.anew.fit_edited.Goals as goal

pub touched_components-requires : goal.touched_components-requires
touched_components-requires c = c.requires.order

pub carried-requires : goal.carried-requires
carried-requires c = c.requires.fit.count ∙ group_count c.args.before.now

pub refitted-requires-clause-order : goal.refitted-requires-clause-order
refitted-requires-clause-order c = c.requires.order

pub refitted-requires-clause-as_long : goal.refitted-requires-clause-as_long
refitted-requires-clause-as_long c = c.in_ok-own.ensures.count ∙ sym (group_count c.args.after.now)

pub refitted-requires-clause-known : goal.refitted-requires-clause-known
refitted-requires-clause-known c = λ k there.
    touched_known c.args.order.now c.args.after.now (touched c.args.before.now c.args.edit.now) c.in_ok-touched.touched.items c.in_ok-touched.ensures.holding k (subst (λ (t : List ℕ). Contains t k) c.as_slice.ensures.value there)

pub refitted-requires-clause-few : goal.refitted-requires-clause-few
refitted-requires-clause-few c = omega (arith, ap length c.as_slice.ensures.value, c.in_ok-touched.ensures.few)

pub refitted-requires-clause-others : goal.refitted-requires-clause-others
refitted-requires-clause-others c = λ k members out are.
    untouched_fitted c.args.before.now c.args.after.now c.keeps_limits.ensures.valid c.keeps_limits-2.ensures.valid c.args.edit.now c.requires.edited c.args.order.now c.component_count-count.ensures.within c.requires.order
    c.in_ok-touched.touched.items c.in_ok-touched.ensures.holding c.args.values.now c.in_ok-own.own.items c.requires.fit c.in_ok-own.ensures.count c.in_ok-own.ensures.same
    k members (λ there. out (subst (λ (t : List ℕ). Contains t k) (sym c.as_slice.ensures.value) there)) are

pub returns-clause-components : goal.returns-clause-components
returns-clause-components c = count_of_order c.args.order.now (problem_stated c.args.after.now) c.component_count-count.result c.requires.order c.component_count-count.ensures.count

pub returns-in_err-fitted-clause-limited : goal.returns-in_err-fitted-clause-limited
returns-in_err-fitted-clause-limited c =
    let touched_ones = c.in_ok-touched.touched.items in
    let refit : IsRefit c.args.before.now c.args.edit.now c.args.after.now (length touched_ones) = record { order = c.args.order.now; of = c.requires.order; components = touched_ones; holding = c.in_ok-touched.ensures.holding; count = refl } in
    at_any c.from_residual-in_err-fitted.result (inr (length touched_ones, refit, omega (arith, ap length c.as_slice.ensures.value, c.in_err-fitted.ensures.limited)))
