use Rattle.std.proofs.Common.{◌<◌, ℕ, ℤ, sym, subst}
use Rattle.std.specs.Prelude.{All}
use Rattle.ofit_num.specs.Fraction.{Fraction}
use Rattle.ofit_num.specs.Sheet as num
use Rattle.ofit_study.specs.declared.settings.Settings.{Settings}
use Rattle.ofit_sheet.proofs.Keeping.{fits_if, places_fit, ends_fit}
use Rattle.ofit_sheet.proofs.sheet.Sheet.fits.Goals as goal

pub returns-then-are_places_below : goal.returns-then-are_places_below
returns-then-are_places_below c = (
  (λ ends. subst (λ (x : num.Sheet Settings). num.FitsCount c.args.groups x) c.self.view_is
      (fits_if c.args.groups _ _ _ _ c.self.invariant
      (subst (All (λ (e : ℕ × Fraction). e.0 < c.args.groups)) c.as_slice.ensures.value (c.are_places_below.ensures.0 c.if-are_places_below.true))
      (subst (All (λ (f : ℕ × ℕ × ℤ). (f.0 < c.args.groups) × (f.1 < c.args.groups))) c.as_slice-then-are_places_below.ensures.value (c.are_ends_below.ensures.0 ends)))),
  λ fits. c.are_ends_below.ensures.1
      (subst (All (λ (f : ℕ × ℕ × ℤ). (f.0 < c.args.groups) × (f.1 < c.args.groups))) (sym c.as_slice-then-are_places_below.ensures.value)
      (ends_fit c.args.groups _ _ _ _ (subst (λ (x : num.Sheet Settings). num.FitsCount c.args.groups x) (sym c.self.view_is) fits))),
)

pub returns-else-are_places_below : goal.returns-else-are_places_below
returns-else-are_places_below c = (
  (λ yes. absurd (cc)),
  λ fits. c.are_places_below.ensures.1
      (subst (All (λ (e : ℕ × Fraction). e.0 < c.args.groups)) (sym c.as_slice.ensures.value)
      (places_fit c.args.groups _ _ _ _ (subst (λ (x : num.Sheet Settings). num.FitsCount c.args.groups x) (sym c.self.view_is) fits))),
)
