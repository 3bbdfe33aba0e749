use Rattle.std.proofs.Common.{List, subst}
use Rattle.std.specs.Prelude.{Vec}
use Rattle.std.specs.Global.{Global}
use Rattle.std.proofs.lemmas.Result.{IfOk-weaker}
use Rattle.ofit_num.specs.declared.frac.Frac.{Frac}
use Rattle.ofit_num.specs.Clipped.{AreClipped}
use Rattle.ofit_num.specs.Fraction.{Fraction}
use Rattle.ofit_study.specs.Study.{problem_stated, meaning_of}
use Rattle.ofit_fit.specs.Part.{part_of}
use Rattle.ofit_fit.proofs.Ready.{study_fittable, members_places, for_members}
use Rattle.ofit_fit.proofs.Bounded.{bounded}
use Rattle.ofit_fit.proofs.component.fit_component.Goals as goal

pub fit_free-requires-clause-study : goal.fit_free-requires-clause-study
fit_free-requires-clause-study c = study_fittable c.args.study.now c.args.order.now c.keeps_limits.ensures.valid c.requires.order

pub returns-clause-least_best : goal.returns-clause-least_best
returns-clause-least_best c =
    let s = c.args.study.now in
    let order = c.args.order.now in
    let members = c.members.result.now in
    let valid = c.keeps_limits.ensures.valid in
    let m = meaning_of s.settings.loss in
    let places = members_places s order valid c.requires.order c.args.component members c.requires.component c.members.ensures.members c.members.ensures.closed in
    let fit = study_fittable s order valid c.requires.order in
    let values = c.in_ok-values.values.items in
    for_members c.values_within.result m (problem_stated s) order c.args.component members c.members.ensures.members
    (IfOk-weaker c.values_within.result _ _
    (λ (within : Vec Frac Global) (are : AreClipped (part_of (problem_stated s) members) c.deref.result.now within.items).
    bounded s order valid fit members places values within.items (c.in_ok-values.ensures.least_best members c.members.ensures.members) (subst (λ (vs : List Fraction). AreClipped (part_of (problem_stated s) members) vs within.items) c.deref.ensures.value are)) c.values_within.ensures)
