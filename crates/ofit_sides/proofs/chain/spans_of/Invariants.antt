use Rattle.std.proofs.Common.{◌≡◌, ◌<◌, ℕ, length}
use Rattle.ofit_num.specs.Loss.{median}
use Rattle.ofit_num.specs.Unbounded.{no_bounds}
use Rattle.ofit_num.specs.Tight.{value_at as own}
use Rattle.ofit_cut.specs.Span.{span_at}
use Rattle.ofit_cert.specs.OpenSpans.{open_span}
use Rattle.ofit_sides.specs.FirstFit.{rows_at}
use Rattle.ofit_sides.proofs.chain.spans_of.Given as goal

abbrev pub invariant-loop-place : goal.invariant-loop-place
invariant-loop-place l = record {
  counted : length l.spans.items ≡ l.place;
  each : (g : ℕ) → g < l.place → span_at l.spans.items g ≡ open_span median (rows_at l.groups g) (no_bounds g) (own l.values g);
}
