-- The fractions of a list of whole numbers.
use Rattle.std.proofs.Common.{◌≡◌, ℕ, ◌<◌, ◌≤◌, ◌^◌, List, length, sym, ap, subst, ◌∙◌, arith, get_or, map}
use Rattle.std.proofs.lemmas.Int.{ints}
use Rattle.std.proofs.lemmas.List.{length-map, get_or-map}
use Rattle.std.proofs.lemmas.List.Elements.{All-map}
use Rattle.std.proofs.lemmas.Option.{slice_get-get_or}
use Rattle.std.specs.Prelude.{ℤ, pos, ◌*ℤ◌, ◌≤ℤ◌, All, slice_get, unwrap_or, Option, Some, unsigned_abs}
use Rattle.ofit_num.specs.Fraction.{Fraction, IsLowest}
use Rattle.ofit_num.specs.Reduced.{InLimits}
use Rattle.ofit_num.specs.Tight.{value_at as own}
use Rattle.ofit_num.specs.Trial.{value_of, scale_of}
use Rattle.ofit_num.proofs.Gap.{is_gap, gap-same, gap-mul, pos-gap}
use Rattle.ofit_num.proofs.Order.{cancel_le_ℤ}
use Rattle.ofit_num.proofs.Trials.{value_of-den}
use Rattle.ofit_loss.proofs.MedianLeast.{lowest_whole}
use Rattle.ofit_sides.specs.Values.{whole_fraction}

pub one_scale : (z : ℤ) → z *ℤ pos 1 ≡ z
one_scale z = rw (is_gap z) (simp (pos-gap, gap-mul) (gap-same _ _ _ _ (omega arith)))

module _ (fs : List Fraction) (whole : List ℤ) (same : fs ≡ map whole_fraction whole) where
  pub as_long : length fs ≡ length whole
  as_long = ap (λ (t : List Fraction). length t) same ∙ length-map whole whole_fraction

  got : (g : ℕ) → g < length whole → slice_get fs g ≡ Some (whole_fraction (get_or whole g (pos 0)))
  got g l =
      ap (λ (t : List Fraction). slice_get t g) same ∙ slice_get-get_or (map whole_fraction whole) g (whole_fraction (pos 0)) (omega (arith, l, length-map whole whole_fraction))
      ∙ ap Some (get_or-map whole_fraction whole g (pos 0) (whole_fraction (pos 0)) l)

  pub own_whole : (g : ℕ) → g < length whole → own fs g ≡ whole_fraction (get_or whole g (pos 0))
  own_whole g l = ap (λ (o : Option Fraction). unwrap_or o (record { num = pos 0; den = 1 })) (got g l)

  pub lowest : All IsLowest fs
  lowest = subst (All IsLowest) (sym same) (All-map IsLowest whole_fraction whole (λ k d l. lowest_whole (get_or whole k d)))

  pub own_in_limits : All (λ z. unsigned_abs z ≤ 10 ^ 9) whole → (g : ℕ) → g < length whole → InLimits (own fs g)
  own_in_limits small g l =
      let value : unsigned_abs (get_or whole g (pos 0)) ≤ 10 ^ 9 = small g (pos 0) l in
      subst InLimits (sym (own_whole g l)) (record { num = omega (arith, value); den = omega arith })

  -- over one denominator
  over_scale : (g : ℕ) → g < length whole → value_of fs g ≡ get_or whole g (pos 0) *ℤ pos (scale_of fs)
  over_scale g l = sym (one_scale (value_of fs g)) ∙ value_of-den fs g (whole_fraction (get_or whole g (pos 0))) (got g l)

  pub whole_rises : 0 < scale_of fs → (g h : ℕ) → g < length whole → h < length whole → value_of fs g ≤ℤ value_of fs h → get_or whole g (pos 0) ≤ℤ get_or whole h (pos 0)
  whole_rises some g h l m le = cancel_le_ℤ _ _ (scale_of fs) some (omega (arith, ints, le, over_scale g l, over_scale h m))
