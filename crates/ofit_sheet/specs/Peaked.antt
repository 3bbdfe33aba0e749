-- A peaked sheet: a value for each group, a peak, a cost, and a side for each number of first groups and of last ones, each step of it with an amount. In the sheet of a fit the values rise up to the peak and fall from it, the sides are chain fits, and the amounts certify them; a sheet that is read has the shape and the limits alone.
use Rattle.std.specs.Prelude.{◌≡◌, ◌<◌, ◌≤◌, ◌-◌, ℕ, ℤ, pos, ◌≤ℤ◌, List, [], length, Option, MatchOption, IfSome, All, slice_get, slice_index_or, unsigned_abs, None}
use Rattle.ofit_num.specs.declared.limits.TheConstants.{MOST_UNITS}
pub use Rattle.ofit_sheet.specs.declared.peaked.limits.TheConstants.{MOST_COST as most_cost}
use Rattle.ofit_sheet.specs.Kept.{most_amount}

-- each step of a side is a group's value and an amount
pub record Peaked : Type 0 where
  pub places : ℕ
  pub peak : Option ℕ
  pub cost : ℕ
  pub values : List ℤ
  pub rises : List (List (ℤ × ℤ))
  pub falls : List (List (ℤ × ℤ))

-- rise i is of the first i groups, for i from 1 on, and fall i of those from the place i on
abbrev pub rise_at : Peaked → ℕ → List (ℤ × ℤ)
rise_at x i = slice_index_or x.rises (i - 1) []

abbrev pub fall_at : Peaked → ℕ → List (ℤ × ℤ)
fall_at x i = slice_index_or x.falls i []

-- a side of so many steps, of which the last one has the amount 0
pub record IsSide (steps : ℕ) (side : List (ℤ × ℤ)) : Type 0 where
  pub count : length side ≡ steps
  pub amounts : All (λ step. pos 0 ≤ℤ step.1) side
  pub last : IfSome (slice_get side (length side - 1)) (λ step. step.1 ≡ pos 0)

-- the peaked sheet has the shape of those of n groups
pub record IsShaped (n : ℕ) (x : Peaked) : Type 0 where
  pub places : x.places ≤ 6
  pub peak : MatchOption x.peak (n ≡ 0) (λ place. place < n)
  pub values : length x.values ≡ n
  pub rises : length x.rises ≡ n
  pub falls : length x.falls ≡ n
  pub rise : (i : ℕ) → 1 ≤ i → i ≤ n → IsSide i (rise_at x i)
  pub fall : (i : ℕ) → i < n → IsSide (n - i) (fall_at x i)

-- the limits of the numbers that are printed
pub record IsStepInLimits (step : ℤ × ℤ) : Type 0 where
  pub value : unsigned_abs step.0 ≤ MOST_UNITS
  pub amount : unsigned_abs step.1 ≤ most_amount

-- and without groups nothing costs anything
pub record IsInLimits (x : Peaked) : Type 0 where
  pub cost : x.cost ≤ most_cost
  pub nothing : x.peak ≡ None → x.cost ≡ 0
  pub values : All (λ value. unsigned_abs value ≤ MOST_UNITS) x.values
  pub rises : All (λ side. All IsStepInLimits side) x.rises
  pub falls : All (λ side. All IsStepInLimits side) x.falls
