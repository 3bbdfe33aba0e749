-- The fit of an unknown peak, apart from the sides that certify it.
use Rattle.std.specs.Prelude.{◌≡◌, ◌≤◌, ℕ, ℤ, List, [], All, Option, None, length, unsigned_abs}
use Rattle.ofit_num.specs.declared.limits.TheConstants.{MOST_UNITS}
use Rattle.ofit_sheet.specs.declared.peaked.limits.TheConstants.{MOST_PEAK_GROUPS}
use Rattle.ofit_num.specs.Groups.{RowLists}
use Rattle.ofit_num.specs.Problem.{Problem, problem_of}
use Rattle.ofit_num.specs.Unbounded.{no_bounds}
use Rattle.ofit_study.specs.Study.{Study, names_of}
use Rattle.ofit_sheet.specs.Unimodal.{PeakBest}
use Rattle.ofit_unimodal.specs.Costs.{split_cost}

-- the groups by themselves, without pairs and bounds
abbrev pub lone : RowLists → Problem
lone groups = problem_of groups [] no_bounds

-- few groups, none of which has a bound
pub record IsPeakable (s : Study) : Type 0 where
  pub few : length (names_of s) ≤ MOST_PEAK_GROUPS
  pub low : s.settings.lo ≡ None
  pub high : s.settings.hi ≡ None

-- the best fit, whose values are within the limits of rows, and which costs no more than the sides on both ends of any split
pub record IsFit (s : Problem) (rises falls : List (List (ℤ × ℤ))) (peak : Option ℕ) (cost : ℕ) (values : List ℤ) : Type 0 where
  pub best : PeakBest s peak cost values
  pub small : All (λ value. unsigned_abs value ≤ MOST_UNITS) values
  pub least : (i : ℕ) → i ≤ s.count → cost ≤ split_cost s rises falls i
