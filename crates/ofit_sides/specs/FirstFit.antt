-- The fit of the chain of the first groups of a list, as many as there are values.
use Rattle.std.specs.Prelude.{◌≡◌, ◌≤◌, ℕ, ℤ, List, [], All, length, map, take, slice_get, unwrap_or, unsigned_abs}
use Rattle.ofit_num.specs.declared.limits.TheConstants.{MOST_UNITS}
use Rattle.ofit_num.specs.declared.row.Row.{Row}
use Rattle.ofit_num.specs.Fit.{BestValues}
use Rattle.ofit_num.specs.Fraction.{Fraction}
use Rattle.ofit_num.specs.Groups.{RowLists}
use Rattle.ofit_num.specs.Loss.{median}
use Rattle.ofit_num.specs.Problem.{Problem}
use Rattle.ofit_num.specs.Settled.{IsLeastSettled}
use Rattle.ofit_num.specs.Trial.{trial_of}
use Rattle.ofit_chain.specs.Chain.{chain_problem}
use Rattle.ofit_sides.specs.Values.{whole_fraction}

-- the rows of the group at a place
abbrev pub rows_at : RowLists → ℕ → List Row
rows_at groups g = unwrap_or (slice_get groups g) []

-- the chain of the first so many groups
abbrev pub first_chain : RowLists → ℕ → Problem
first_chain groups n = chain_problem (take n groups)

-- the values are best ones of that chain, and the least of these
pub record IsFirstFit (groups : RowLists) (values : List Fraction) : Type 0 where
  pub few : length values ≤ length groups
  pub best : BestValues median (first_chain groups (length values)) values
  pub settled : IsLeastSettled median (first_chain groups (length values)) (trial_of values)

-- the values are whole, and within the limits of rows
pub record AreWhole (values : List Fraction) : Type 0 where
  pub whole : List ℤ
  pub same : values ≡ map whole_fraction whole
  pub small : All (λ z. unsigned_abs z ≤ MOST_UNITS) whole
