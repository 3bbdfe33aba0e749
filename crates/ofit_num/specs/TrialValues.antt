-- Trials by their values.
use Rattle.std.specs.Prelude.{◌≡◌, ℕ, ◌*◌, ◌<◌, List, pos, ◌*ℤ◌, slice_get, Some}
use Rattle.ofit_num.specs.Fraction.{Fraction}
use Rattle.ofit_num.specs.Trial.{Trial}

-- the trial has each fraction of the list at its place
pub record Represents (fs : List Fraction) (t : Trial) : Type 0 where
  pub scale : 0 < t.scale
  pub dens : (g : ℕ) (f : Fraction) → slice_get fs g ≡ Some f → 0 < f.den
  pub values : (g : ℕ) (f : Fraction) → slice_get fs g ≡ Some f → t.value g *ℤ pos f.den ≡ f.num *ℤ pos t.scale

-- two trials have equal values at the places below n
pub record EqualBelow (n : ℕ) (t u : Trial) : Type 0 where
  pub values : (g : ℕ) → g < n → t.value g *ℤ pos u.scale ≡ u.value g *ℤ pos t.scale
