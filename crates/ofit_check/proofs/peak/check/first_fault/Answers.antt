use Rattle.std.proofs.Common.{◌∙◌, ap, sym}
use Rattle.ofit_study.specs.declared.settings.Settings.{Settings}
use Rattle.ofit_check.proofs.PeakTold.{shape_told, rise_told, fall_told, least_told, passes_so}
use Rattle.ofit_check.proofs.peak.check.first_fault.Goals as goal

pub returns-in-Some : goal.returns-in-Some
returns-in-Some c =
    shape_told c.args.study.now c.args.peaked.now
    (sym c.places.ensures ∙ c.if-places-settings.false ∙ ap (λ (t : Settings). t.places) c.settings.ensures.settings)
    c.in-Some.place c.in-Some.ensures

pub returns-in-Some-first_bad_rise : goal.returns-in-Some-first_bad_rise
returns-in-Some-first_bad_rise c =
    rise_told c.args.study.now c.args.peaked.now
    (sym c.places.ensures ∙ c.if-places-settings.false ∙ ap (λ (t : Settings). t.places) c.settings.ensures.settings)
    c.in_default.ensures (sym c.cost_of_values.ensures ∙ c.if-cost_of_values-cost.false ∙ c.cost.ensures)
    _ _ c.in-Some-first_bad_rise.ensures

pub returns-in-Some-first_bad_fall : goal.returns-in-Some-first_bad_fall
returns-in-Some-first_bad_fall c =
    fall_told c.args.study.now c.args.peaked.now
    (sym c.places.ensures ∙ c.if-places-settings.false ∙ ap (λ (t : Settings). t.places) c.settings.ensures.settings)
    c.in_default.ensures (sym c.cost_of_values.ensures ∙ c.if-cost_of_values-cost.false ∙ c.cost.ensures)
    c.in_default-first_bad_rise.ensures _ _ c.in-Some-first_bad_fall.ensures

pub returns-in-Some-first_not_least : goal.returns-in-Some-first_not_least
returns-in-Some-first_not_least c =
    least_told c.args.study.now c.args.peaked.now
    (sym c.places.ensures ∙ c.if-places-settings.false ∙ ap (λ (t : Settings). t.places) c.settings.ensures.settings)
    c.in_default.ensures (sym c.cost_of_values.ensures ∙ c.if-cost_of_values-cost.false ∙ c.cost.ensures)
    c.in_default-first_bad_rise.ensures c.in_default-first_bad_fall.ensures c.in-Some-first_not_least.length c.in-Some-first_not_least.ensures

pub returns-in-None : goal.returns-in-None
returns-in-None c =
    passes_so c.args.study.now c.args.peaked.now
    (sym c.places.ensures ∙ c.if-places-settings.false ∙ ap (λ (t : Settings). t.places) c.settings.ensures.settings)
    c.in_default.ensures (sym c.cost_of_values.ensures ∙ c.if-cost_of_values-cost.false ∙ c.cost.ensures)
    c.in_default-first_bad_rise.ensures c.in_default-first_bad_fall.ensures c.in-None.ensures
