-- Costs that bound from below what the first groups cost at rising values, and the last ones at falling values.
use Rattle.std.specs.Prelude.{◌≡◌, ◌⊎◌, ◌+◌, ◌-◌, ◌*◌, ◌<◌, ◌≤◌, ℕ, suc, ◌≤ℤ◌}
use Rattle.ofit_num.specs.Fit.{sum_below, trial_cost}
use Rattle.ofit_num.specs.Loss.{median}
use Rattle.ofit_num.specs.Problem.{Problem}
use Rattle.ofit_num.specs.Trial.{Trial}
use Rattle.ofit_sheet.specs.Unimodal.{IsUnimodal}

-- what the first i groups cost at a trial, and those from the place i on
abbrev pub first_cost : Problem → Trial → ℕ → ℕ
first_cost s t i = sum_below (λ j. median.cost (s.rows j) (t.value j) t.scale) i

abbrev pub last_cost : Problem → Trial → ℕ → ℕ
last_cost s t i = sum_below (λ j. median.cost (s.rows (i + j)) (t.value (i + j)) t.scale) (s.count - i)

-- no trial that rises along the first i groups costs less there than rises i
pub record BoundsRises (s : Problem) (rises : ℕ → ℕ) : Type 0 where
  pub bounds : (t : Trial) → 0 < t.scale → (i : ℕ) → i ≤ s.count → ((g : ℕ) → suc g < i → t.value g ≤ℤ t.value (suc g)) → rises i * t.scale ≤ first_cost s t i

-- and none that falls along those from the place i on costs less there than falls i
pub record BoundsFalls (s : Problem) (falls : ℕ → ℕ) : Type 0 where
  pub bounds : (t : Trial) → 0 < t.scale → (i : ℕ) → i ≤ s.count → ((g : ℕ) → i ≤ g → suc g < s.count → t.value (suc g) ≤ℤ t.value g) → falls i * t.scale ≤ last_cost s t i

-- the trial costs no less than the rise of the first i groups and the fall of the others
abbrev pub CostsSplit : Problem → (ℕ → ℕ) → (ℕ → ℕ) → Trial → ℕ → Type 0
CostsSplit s rises falls t i = (rises i + falls i) * t.scale ≤ trial_cost median s t

-- the trial is unimodal with a peak at the split of the first i groups from the others: the last of those or the first of these
pub record HasPeakAt (n i : ℕ) (t : Trial) : Type 0 where
  pub peak : ℕ
  pub inside : peak < n
  pub near : (peak ≡ i) ⊎ (suc peak ≡ i)
  pub unimodal : IsUnimodal n peak t
