-- What is found step by step in the check of a peaked sheet.
use Rattle.std.specs.Prelude.{◌+◌, ◌*◌, ◌-◌, ◌<◌, ◌≤◌, ℕ, suc, ℤ, ◌-ℤ◌, ◌≤ℤ◌, List, length, Option, MatchOption, unsigned_abs}
use Rattle.ofit_num.specs.declared.row.Row.{Row}
use Rattle.ofit_num.specs.Problem.{Problem}
use Rattle.ofit_num.specs.Loss.{median}
use Rattle.ofit_num.specs.Fit.{sum_below}
use Rattle.ofit_num.specs.Verdict.{AllBelow}
use Rattle.ofit_sheet.specs.Peaked.{Peaked}
use Rattle.ofit_sheet.specs.PeakVerdict.{value_at, amount_at, amount_before, IsRiseStep, IsFallStep, KeepsRise, KeepsFall, BreaksRise, BreaksFall}
use Rattle.ofit_check.specs.declared.peak.slope.Slope.{Slope}
use Rattle.ofit_check.specs.declared.peak.slope.Slope.TheVariants.{Rise, Fall}

-- a value and the next one
abbrev pub AreInOrder : Slope → ℤ → ℤ → Type 0
AreInOrder Rise value next = value ≤ℤ next
AreInOrder Fall value next = next ≤ℤ value

-- a step is in order with the next one, where there is one
abbrev pub KeepsOrder : Slope → List (ℤ × ℤ) → ℕ → Type 0
KeepsOrder slope side j = suc j < length side → AreInOrder slope (value_at side j) (value_at side (suc j))

-- what flows out of a step's group less what flows into it
abbrev pub step_balance : Slope → List (ℤ × ℤ) → ℕ → ℤ
step_balance Rise side j = amount_at side j -ℤ amount_before side j
step_balance Fall side j = amount_before side j -ℤ amount_at side j

-- the step keeps the rules of a side
abbrev pub IsStep : Slope → List Row → List (ℤ × ℤ) → ℕ → Type 0
IsStep Rise rows side j = IsRiseStep rows side j
IsStep Fall rows side j = IsFallStep rows side j

-- a row's weight times its distance from a value
abbrev pub distance : ℤ → Row → ℕ
distance value r = r.weight * unsigned_abs (r.value -ℤ value)

-- what the steps of a side cost whose first group is at the place of this number
abbrev pub side_cost : Problem → ℕ → List (ℤ × ℤ) → ℕ → ℕ
side_cost s start side n = sum_below (λ j. median.cost (s.rows (start + j)) (value_at side j) 1) n

-- the first rise, or fall, that breaks a rule, if there is one
abbrev pub IsFirstRise : Problem → Peaked → Option (ℕ × ℕ) → Type 0
IsFirstRise s x found = MatchOption found ((i : ℕ) → 1 ≤ i → i ≤ s.count → AllBelow (KeepsRise s x i) i) (λ p. BreaksRise s x p.0 p.1)

abbrev pub IsFirstFall : Problem → Peaked → Option (ℕ × ℕ) → Type 0
IsFirstFall s x found = MatchOption found ((i : ℕ) → i < s.count → AllBelow (KeepsFall s x i) (s.count - i)) (λ p. BreaksFall s x p.0 p.1)
