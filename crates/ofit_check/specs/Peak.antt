-- What the parts of the check of a peaked sheet find.
use Rattle.std.specs.Prelude.{ℕ, IfSome}
use Rattle.ofit_num.specs.Problem.{Problem}
use Rattle.ofit_num.specs.Loss.{median}
use Rattle.ofit_num.specs.Trial.{Trial}
use Rattle.ofit_num.specs.Fit.{NoDearer}
use Rattle.ofit_sheet.specs.Peaked.{Peaked}
use Rattle.ofit_sheet.specs.Unimodal.{IsUnimodal, whole_trial}
use Rattle.ofit_sheet.specs.PeakVerdict as sheet
use Rattle.ofit_check.specs.declared.peak.verdict.PeakVerdict.{PeakVerdict}
use Rattle.ofit_check.specs.declared.peak.verdict.PeakVerdict.TheVariants as it

-- the verdict that a value of the program tells
abbrev pub peak_told : PeakVerdict → sheet.PeakVerdict
peak_told it.Settings = sheet.settings_differ
peak_told (it.Shape place) = sheet.shape_breaks place
peak_told it.Cost = sheet.cost_differs
peak_told (it.Rise i place) = sheet.rise_breaks i place
peak_told (it.Fall i place) = sheet.fall_breaks i place
peak_told (it.NotLeast i) = sheet.not_least i
peak_told it.Passes = sheet.passes

-- The values are unimodal with the printed peak, and no unimodal trial costs less, whatever its peak.
pub record IsBestOfPeaks (s : Problem) (x : Peaked) : Type 0 where
  pub shape : IfSome x.peak (λ peak. IsUnimodal s.count peak (whole_trial x.values))
  pub cheapest : (u : Trial) (k : ℕ) → IsUnimodal s.count k u → NoDearer median s (whole_trial x.values) u
