-- A value for each place, over one denominator, so that vectors of fractions are compared in whole numbers.
use Rattle.std.specs.Prelude.{ℕ, zero, suc, ◌*◌, List, [], ◌∷◌, ℤ, pos, ◌*ℤ◌}
use Rattle.ofit_num.specs.Fraction.{Fraction}

-- the vector of value g / scale; places from the count of groups on don't matter, and the scale is at least 1 wherever Obeys or Represents holds
pub record Trial : Type 0 where
  pub value : ℕ → ℤ
  pub scale : ℕ

-- the product of the denominators
abbrev pub scale_of : List Fraction → ℕ
scale_of [] = 1
scale_of (f ∷ fs) = f.den * scale_of fs

-- the numerator at a place times the denominators of all other places
abbrev pub value_of : List Fraction → ℕ → ℤ
value_of [] g = pos 0
value_of (f ∷ fs) zero = f.num *ℤ pos (scale_of fs)
value_of (f ∷ fs) (suc g) = value_of fs g *ℤ pos f.den

-- the trial of a list of fractions
abbrev pub trial_of : List Fraction → Trial
trial_of fs = record { value = value_of fs; scale = scale_of fs }
