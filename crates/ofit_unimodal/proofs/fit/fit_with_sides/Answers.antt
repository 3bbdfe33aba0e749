use Rattle.std.proofs.Common.{◌≡◌, ◌∙◌, ◌≤◌, ℕ, List, ap, sym, subst, arith}
use Rattle.std.specs.Prelude.{ℤ}
use Rattle.ofit_loss.proofs.ProblemLaws.{groups_fittable}
use Rattle.ofit_sheet.specs.Peaked.{IsShaped, IsInLimits}
use Rattle.ofit_sheet.specs.PeakVerdict.{PeakPasses}
use Rattle.ofit_span.proofs.Fittable.{all_fittable}
use Rattle.ofit_study.specs.declared.settings.Settings.{Settings}
use Rattle.ofit_study.specs.Study.{groups_of, places_of, bounds_of, problem_stated}
use Rattle.ofit_study.proofs.Places.{group_count}
use Rattle.ofit_unimodal.specs.Fitted.{IsFit}
use Rattle.ofit_unimodal.proofs.UmbrellaFit.{free_of}
use Rattle.ofit_unimodal.proofs.Made.{sheet_of, made_passes, made_shaped, made_limited}
use Rattle.ofit_unimodal.proofs.fit.fit_with_sides.Goals as goal

pub returns-clause-passes : goal.returns-clause-passes
returns-clause-passes c =
    let study = c.args.study.now in
    let s = problem_stated study in
    let fit = c.in_ok-fit.fit in
    let own : c.make.result ≡ sheet_of study.settings.places fit.peak fit.cost fit.values.items c.args.rises.items c.args.falls.items =
    c.make.ensures ∙ ap (λ (settings : Settings). sheet_of settings.places fit.peak fit.cost fit.values.items c.args.rises.items c.args.falls.items) c.settings-settings.ensures.settings in
    let is : IsFit s c.args.rises.items c.args.falls.items fit.peak fit.cost fit.values.items =
    subst (λ (rises : List (List (ℤ × ℤ))). IsFit s rises c.args.falls.items fit.peak fit.cost fit.values.items) c.as_slice.ensures.value
    (subst (λ (falls : List (List (ℤ × ℤ))). IsFit s c.as_slice.result.now falls fit.peak fit.cost fit.values.items) c.as_slice-2.ensures.value c.in_ok-fit.ensures) in
    subst (PeakPasses s study.settings.places) (sym own)
    (made_passes s study.settings.places c.args.rises.items c.args.falls.items c.requires.rises c.requires.falls (free_of study c.requires.low c.requires.high) fit.cost fit.values.items fit.peak is)

pub returns-clause-shaped : goal.returns-clause-shaped
returns-clause-shaped c =
    let study = c.args.study.now in
    let s = problem_stated study in
    let fit = c.in_ok-fit.fit in
    let few : c.settings-settings.result.now.places ≤ 6 = c.settings-settings.ensures.limits.places in
    subst (λ (n : ℕ). IsShaped n c.make.result) (group_count study)
    (subst (IsShaped s.count) (sym c.make.ensures)
    (made_shaped s c.settings-settings.result.now.places c.args.rises.items c.args.falls.items c.requires.rises c.requires.falls (free_of study c.requires.low c.requires.high) fit.cost fit.values.items fit.peak few c.in_ok-fit.ensures.best))

pub returns-clause-limits : goal.returns-clause-limits
returns-clause-limits c =
    let study = c.args.study.now in
    let s = problem_stated study in
    let fit = c.in_ok-fit.fit in
    let is : IsFit s c.args.rises.items c.args.falls.items fit.peak fit.cost fit.values.items =
    subst (λ (rises : List (List (ℤ × ℤ))). IsFit s rises c.args.falls.items fit.peak fit.cost fit.values.items) c.as_slice.ensures.value
    (subst (λ (falls : List (List (ℤ × ℤ))). IsFit s c.as_slice.result.now falls fit.peak fit.cost fit.values.items) c.as_slice-2.ensures.value c.in_ok-fit.ensures) in
    subst IsInLimits (sym c.make.ensures)
    (made_limited s c.settings-settings.result.now.places c.args.rises.items c.args.falls.items c.requires.rises c.requires.falls (free_of study c.requires.low c.requires.high) fit.cost fit.values.items fit.peak is
    (λ g l. ((groups_fittable (groups_of study) (places_of study) (bounds_of study) (all_fittable study c.keeps_limits.ensures.valid)).groups g l).limits) (omega (arith, c.requires.few, group_count study)))
