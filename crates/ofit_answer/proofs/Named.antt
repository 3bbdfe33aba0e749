-- The checker's verdicts speak of groups and pairs of the study.
use Rattle.std.proofs.Common.{ℕ, ◌+◌, ◌-◌, ◌<◌, length, arith}
use Rattle.std.proofs.lemmas.List.{length-map}
use Rattle.ofit_num.specs.Meaning.{Meaning}
use Rattle.ofit_num.specs.Sheet.{Sheet}
use Rattle.ofit_num.specs.Verdict.{IsVerdict}
use Rattle.ofit_study.specs.declared.settings.Settings as settings
use Rattle.ofit_study.specs.Study.{Study, names_of, groups_of, places_of, place_among, rows_named, problem_stated}
use Rattle.ofit_check.specs.Told.{told}
use Rattle.ofit_check.specs.declared.verdict.Verdict.{Verdict}
use Rattle.ofit_check.specs.declared.verdict.Verdict.TheVariants.{Settings, Size, GroupMissing, Disobeys, OutOfBounds, FlowNotPair, FlowOrder, FlowNotTight, Balance, Passes}
use Rattle.ofit_check.specs.declared.peak.verdict.PeakVerdict.{PeakVerdict}
use Rattle.ofit_check.specs.declared.peak.verdict.PeakVerdict.TheVariants as peak
use Rattle.ofit_check.specs.Peak.{peak_told}
use Rattle.ofit_sheet.specs.Peaked.{Peaked}
use Rattle.ofit_sheet.specs.PeakVerdict.{IsPeakVerdict}
use Rattle.ofit_answer.specs.Named.{IsNamed, IsPeakNamed}

module _ (s : Study) where
  group_inside : (place : ℕ) → place < length (groups_of s) → place < length (names_of s)
  group_inside place l = omega (arith, length-map (names_of s) (rows_named s.rows))

  pair_inside : (index : ℕ) → index < length (places_of s) → index < length s.pairs
  pair_inside index l = omega (arith, length-map {B = ℕ × ℕ} s.pairs (λ e. (place_among (names_of s) e.0, place_among (names_of s) e.1)))

  -- so the line of a verdict can be written
  pub named : (m : Meaning) (x : Sheet settings.Settings) (verdict : Verdict) → IsVerdict m (problem_stated s) s.settings x (told verdict) → IsNamed s verdict
  named m x Settings h = tt
  named m x Size h = tt
  named m x (GroupMissing place) h = group_inside place h.1.below
  named m x (Disobeys index) h = pair_inside index h.1.below
  named m x (OutOfBounds place) h = group_inside place h.1.below
  named m x (FlowNotPair number) h = tt
  named m x (FlowOrder number) h = tt
  named m x (FlowNotTight number) h = tt
  named m x (Balance place) h = group_inside place h.1.below
  named m x Passes h = tt

  -- and so can that of one on a peaked sheet
  pub peak_named : (own : ℕ) (x : Peaked) (verdict : PeakVerdict) → IsPeakVerdict (problem_stated s) own x (peak_told verdict) → IsPeakNamed s verdict
  peak_named own x peak.Settings h = tt
  peak_named own x (peak.Shape place) h = group_inside place (omega (arith, h.1.below))
  peak_named own x peak.Cost h = tt
  peak_named own x (peak.Rise number place) h = group_inside place (omega (arith, h.1.fails.below, h.1.most))
  peak_named own x (peak.Fall number place) h = group_inside place (omega (arith, h.1.fails.below, h.1.is_place))
  peak_named own x (peak.NotLeast number) h = tt
  peak_named own x peak.Passes h = tt
