-- Fractions in lowest terms, within the limits of those that are printed.
use Rattle.std.specs.Prelude.{◌≡◌, ℕ, ◌≤◌, ℤ, pos, negsuc, ◌*ℤ◌, zero, suc, unsigned_abs}
use Rattle.ofit_num.specs.declared.limits.TheConstants.{MOST_DEN, MOST_NUM}
use Rattle.ofit_num.specs.Fraction.{Fraction, IsLowest}

-- the numbers that a printed fraction may have
pub record InLimits (f : Fraction) : Type 0 where
  pub num : unsigned_abs f.num ≤ MOST_NUM
  pub den : f.den ≤ MOST_DEN

-- f is num/den in lowest terms
pub record Reduces (num den : ℤ) (f : Fraction) : Type 0 where
  pub lowest : IsLowest f
  pub same : f.num *ℤ den ≡ num *ℤ pos f.den

abbrev pub negated : ℕ → ℤ
negated zero = pos 0
negated (suc k) = negsuc k
