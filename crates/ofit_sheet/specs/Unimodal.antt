-- Values that rise up to a peak and fall from it, and the best of all peaks.
use Rattle.std.specs.Prelude.{◌≡◌, ◌*◌, ◌^◌, ◌<◌, ◌≤◌, ℕ, suc, ℤ, pos, ◌≤ℤ◌, List, [], length, Option, Some, None, slice_index_or}
pub use Rattle.ofit_num.specs.Pairs.{umbrella_pairs}
use Rattle.ofit_num.specs.Problem.{Problem}
use Rattle.ofit_num.specs.Meaning.{Meaning}
use Rattle.ofit_num.specs.Loss.{median}
use Rattle.ofit_num.specs.Trial.{Trial}
use Rattle.ofit_num.specs.Fit.{trial_cost, NoDearer, LeastBest}

-- the trial of whole values
abbrev pub whole_trial : List ℤ → Trial
whole_trial values = record { value = λ g. slice_index_or values g (pos 0); scale = 1 }

-- the values of the n places rise up to the peak and fall from it
pub record IsUnimodal (n peak : ℕ) (t : Trial) : Type 0 where
  pub scale : 0 < t.scale
  pub rises : (g : ℕ) → suc g < n → g < peak → t.value g ≤ℤ t.value (suc g)
  pub falls : (g : ℕ) → suc g < n → peak ≤ g → t.value (suc g) ≤ℤ t.value g

-- a problem with the pairs of the umbrella in place of its own
abbrev pub umbrella : Problem → ℕ → Problem
umbrella s peak = record s { pairs = umbrella_pairs peak s.count }

-- t costs less than u
pub record IsCheaper (m : Meaning) (s : Problem) (t u : Trial) : Type 0 where
  pub costs : trial_cost m s t * u.scale ^ m.degree < trial_cost m s u * t.scale ^ m.degree

-- The values are the least best ones with this peak; no unimodal trial costs less, whatever its peak, and each one with an earlier peak costs more.
pub record IsBestPeak (s : Problem) (peak cost : ℕ) (values : List ℤ) : Type 0 where
  pub place : peak < s.count
  pub count : length values ≡ s.count
  pub least_best : LeastBest median (umbrella s peak) (whole_trial values)
  pub costs : trial_cost median s (whole_trial values) ≡ cost
  pub cheapest : (u : Trial) (k : ℕ) → k < s.count → IsUnimodal s.count k u → NoDearer median s (whole_trial values) u
  pub first : (u : Trial) (k : ℕ) → k < peak → IsUnimodal s.count k u → IsCheaper median s (whole_trial values) u

-- without groups there is no peak
pub record IsNoPeak (s : Problem) (cost : ℕ) (values : List ℤ) : Type 0 where
  pub nothing : s.count ≡ 0
  pub free : cost ≡ 0
  pub empty : values ≡ []

-- the fit of a problem whose peak isn't known
abbrev pub PeakBest : Problem → Option ℕ → ℕ → List ℤ → Type 0
PeakBest s None cost values = IsNoPeak s cost values
PeakBest s (Some peak) cost values = IsBestPeak s peak cost values
