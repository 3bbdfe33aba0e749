-- That a verdict speaks of groups and pairs of the study.
use Rattle.std.specs.Prelude.{◌<◌, length, ⊤}
use Rattle.ofit_study.specs.Study.{Study, names_of}
use Rattle.ofit_check.specs.declared.verdict.Verdict.{Verdict}
use Rattle.ofit_check.specs.declared.verdict.Verdict.TheVariants.{GroupMissing, Disobeys, OutOfBounds, Balance}
use Rattle.ofit_check.specs.declared.peak.verdict.PeakVerdict.{PeakVerdict}
use Rattle.ofit_check.specs.declared.peak.verdict.PeakVerdict.TheVariants.{Shape, Rise, Fall}

abbrev pub IsNamed : Study → Verdict → Type 0
IsNamed s (GroupMissing place) = place < length (names_of s)
IsNamed s (Disobeys index) = index < length s.pairs
IsNamed s (OutOfBounds place) = place < length (names_of s)
IsNamed s (Balance place) = place < length (names_of s)
IsNamed s verdict = ⊤

-- and one on a peaked sheet
abbrev pub IsPeakNamed : Study → PeakVerdict → Type 0
IsPeakNamed s (Shape place) = place < length (names_of s)
IsPeakNamed s (Rise number place) = place < length (names_of s)
IsPeakNamed s (Fall number place) = place < length (names_of s)
IsPeakNamed s verdict = ⊤
