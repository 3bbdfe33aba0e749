use Rattle.std.proofs.Common.{◌≡◌, ◌<◌, ℕ, length}
use Rattle.std.specs.Prelude.{slice_get, Some}
use Rattle.ofit_num.specs.Fraction.{Fraction}
use Rattle.ofit_cut.specs.Span.{span_at}
use Rattle.ofit_sheet.specs.Kept.{IsFractionInLimits}
use Rattle.ofit_study.specs.Study.{problem_stated, meaning_of}
use Rattle.ofit_cert.specs.Tight.{own}
use Rattle.ofit_cert.specs.OpenSpans.{open_span}
use Rattle.ofit_cert.proofs.spans.spans_of.Given as goal

abbrev pub invariant-loop-place : goal.invariant-loop-place
invariant-loop-place l = record {
  counted : length l.spans.items ≡ l.place;
  each : (g : ℕ) → g < l.place → span_at l.spans.items g ≡ open_span (meaning_of l.study.settings.loss) ((problem_stated l.study).rows g) ((problem_stated l.study).bounds g) (own l.values g);
  fractions : (g : ℕ) (f : Fraction) → g < l.place → slice_get l.values g ≡ Some f → IsFractionInLimits f;
}
