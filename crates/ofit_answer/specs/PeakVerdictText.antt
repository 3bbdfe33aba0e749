-- The line of a verdict on a peaked sheet of a study.
use Rattle.std.specs.Prelude.{ℕ, List, ◌++◌, codes, decimal}
use Rattle.ofit_study.specs.Study.{Study}
use Rattle.ofit_check.specs.declared.peak.verdict.PeakVerdict.{PeakVerdict}
use Rattle.ofit_check.specs.declared.peak.verdict.PeakVerdict.TheVariants.{Settings, Shape, Cost, Rise, Fall, NotLeast, Passes}
use Rattle.ofit_answer.specs.VerdictText.{group_text, group_fault}

-- `fails <words> <i> <group>`
abbrev pub side_fault : List ℕ → ℕ → Study → ℕ → List ℕ
side_fault words number s place = codes "fails " ++ words ++ codes " " ++ decimal number ++ codes " " ++ group_text s place ++ codes "\n"

-- `fails not least <i>`
abbrev pub least_fault : ℕ → List ℕ
least_fault number = codes "fails not least " ++ decimal number ++ codes "\n"

abbrev pub peak_verdict_text : Study → PeakVerdict → List ℕ
peak_verdict_text s Settings = codes "fails settings\n"
peak_verdict_text s (Shape place) = group_fault (codes "shape") s place
peak_verdict_text s Cost = codes "fails cost\n"
peak_verdict_text s (Rise number place) = side_fault (codes "rise") number s place
peak_verdict_text s (Fall number place) = side_fault (codes "fall") number s place
peak_verdict_text s (NotLeast number) = least_fault number
peak_verdict_text s Passes = codes "passes\n"
