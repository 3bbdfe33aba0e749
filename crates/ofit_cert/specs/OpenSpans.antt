-- The spans of groups at their values, open where a bound bars the move.
use Rattle.std.specs.Prelude.{◌≡◌, ◌<◌, ℕ, List, length}
use Rattle.ofit_num.specs.declared.row.Row.{Row}
use Rattle.ofit_num.specs.Fraction.{Fraction}
use Rattle.ofit_num.specs.Meaning.{Meaning}
use Rattle.ofit_num.specs.Problem.{Problem, Bounds}
use Rattle.ofit_cut.specs.declared.span.Span.{Span}
use Rattle.ofit_cut.specs.Span.{span_at}
use Rattle.ofit_span.specs.declared.span.OpenSpan.{OpenSpan}
use Rattle.ofit_span.specs.OpenSpan.{open_span as rows_span}
pub use Rattle.ofit_span.specs.OpenSpan.{open_end}
use Rattle.ofit_cert.specs.Tight.{own}

-- a span as that of a node
abbrev pub node_span : OpenSpan → Span
node_span span = record { least = span.least; greatest = span.greatest }

-- the span of rows at a value
abbrev pub open_span : Meaning → List Row → Bounds → Fraction → Span
open_span m rows bounds c = node_span (rows_span m rows bounds c)

-- such a span for each group, at the group's value
pub record AreOpenSpans (m : Meaning) (s : Problem) (fs : List Fraction) (spans : List Span) : Type 0 where
  pub counted : length spans ≡ s.count
  pub each : (g : ℕ) → g < s.count → span_at spans g ≡ open_span m (s.rows g) (s.bounds g) (own fs g)
