-- The sides of an unknown peak: for all first groups a chain fit that rises, for all last ones a chain fit that falls, each with amounts that certify it.
use Rattle.std.specs.Prelude.{◌≡◌, ◌+◌, ◌-◌, ◌<◌, ◌≤◌, ℕ, ℤ, List, [], All, length, slice_index_or}
use Rattle.ofit_num.specs.declared.row.Row.{Row}
use Rattle.ofit_num.specs.Problem.{Problem}
use Rattle.ofit_num.specs.Verdict.{AllBelow}
use Rattle.ofit_sheet.specs.Peaked.{IsSide, IsStepInLimits}
use Rattle.ofit_sheet.specs.PeakVerdict.{IsRiseStep, IsFallStep}

-- a side of so many groups whose steps are those of a rise, within the limits of what is printed; rows are those of its groups
pub record IsRise (rows : ℕ → List Row) (count : ℕ) (side : List (ℤ × ℤ)) : Type 0 where
  pub shape : IsSide count side
  pub steps : AllBelow (λ j. IsRiseStep (rows j) side j) count
  pub limits : All IsStepInLimits side

-- and of a fall
pub record IsFall (rows : ℕ → List Row) (count : ℕ) (side : List (ℤ × ℤ)) : Type 0 where
  pub shape : IsSide count side
  pub steps : AllBelow (λ j. IsFallStep (rows j) side j) count
  pub limits : All IsStepInLimits side

-- a rise of the first i groups for each i from 1 on, in order
pub record AreRises (s : Problem) (sides : List (List (ℤ × ℤ))) : Type 0 where
  pub count : length sides ≡ s.count
  pub each : (i : ℕ) → 1 ≤ i → i ≤ s.count → IsRise s.rows i (slice_index_or sides (i - 1) [])

-- a fall of the groups from the place i on for each place i, in order
pub record AreFalls (s : Problem) (sides : List (List (ℤ × ℤ))) : Type 0 where
  pub count : length sides ≡ s.count
  pub each : (i : ℕ) → i < s.count → IsFall (λ j. s.rows (i + j)) (s.count - i) (slice_index_or sides i [])
