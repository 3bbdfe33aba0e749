use Rattle.std.proofs.Common.{◌≡◌, ◌<◌, ℕ, length, map, ap, sym, subst, arith}
use Rattle.std.proofs.lemmas.List.{length-map}
use Rattle.std.proofs.lemmas.List.Elements.{All-get_or}
use Rattle.ofit_num.specs.Fraction.{Fraction}
use Rattle.ofit_num.specs.Sheet as num
use Rattle.ofit_study.specs.declared.settings.Settings.{Settings}
use Rattle.ofit_sheet.specs.Kept.{IsFractionInLimits}
use Rattle.ofit_sheet.specs.Parts.{entry_of}
use Rattle.ofit_sheet.proofs.sheet.Sheet.value_at.Goals as goal

pub returns-clause-fraction : goal.returns-clause-fraction
returns-clause-fraction c =
    let long : length (map entry_of c.self.inside.values.items) ≡ length c.args.self.now.values = ap (λ (x : num.Sheet Settings). length x.values) c.self.view_is in
    let within : c.args.index < length c.self.inside.values.items = omega (arith, long, length-map c.self.inside.values.items entry_of, c.requires) in
    subst (λ (e : ℕ × Fraction). IsFractionInLimits e.1) (sym c.index.ensures)
    (All-get_or (λ (e : ℕ × Fraction). IsFractionInLimits e.1) c.self.inside.values.items c.args.index c.index.result.now within c.self.invariant.fractions)
