-- Values that rows have.
use Rattle.std.specs.Prelude.{◌≡◌, ◌<◌, ◌≤◌, ℕ, ℤ, pos, ◌*ℤ◌, List, length, Some, slice_get, unsigned_abs}
use Rattle.ofit_num.specs.declared.limits.TheConstants.{MOST_UNITS}
use Rattle.ofit_num.specs.declared.row.Row.{Row}
use Rattle.ofit_num.specs.Problem.{Problem}
use Rattle.ofit_num.specs.Fraction.{Fraction, SameValue}
use Rattle.ofit_num.specs.RowLimits.{AreWithinLimits}
use Rattle.ofit_num.specs.Loss.{median}
use Rattle.ofit_num.specs.Settled.{IsLeastSettled}
use Rattle.ofit_num.specs.Trial.{Trial, trial_of}
use Rattle.ofit_sheet.specs.Unbounded.{HasNoBounds}

-- the trial's value at a place is that of a row, whose group has the same value
pub record IsRowValue (s : Problem) (t : Trial) (g : ℕ) : Type 0 where
  pub group : ℕ
  pub inside : group < s.count
  pub same : t.value group ≡ t.value g
  pub index : ℕ
  pub row : Row
  pub there : slice_get (s.rows group) index ≡ Some row
  pub value : t.value g ≡ pos t.scale *ℤ row.value

abbrev pub whole_fraction : ℤ → Fraction
whole_fraction z = record { num = z; den = 1 }

-- the fraction has the value of a row
pub record IsOfRow (c : Fraction) : Type 0 where
  pub value : ℤ
  pub small : unsigned_abs value ≤ MOST_UNITS
  pub same : SameValue c (whole_fraction value)

-- the values of a least settled fit under the median, of groups without bounds whose rows are within the limits
pub record IsLeastFit (fs : List Fraction) : Type 0 where
  pub problem : Problem
  pub count : length fs ≡ problem.count
  pub free : HasNoBounds problem
  pub limits : (g : ℕ) → g < problem.count → AreWithinLimits (problem.rows g)
  pub settled : IsLeastSettled median problem (trial_of fs)
