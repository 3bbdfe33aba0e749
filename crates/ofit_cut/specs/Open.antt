-- Spans without their greatest ends.
use Rattle.std.specs.Prelude.{None}
use Rattle.ofit_cut.specs.declared.span.Span.{Span}

abbrev pub without_greatest : Span → Span
without_greatest span = record { least = span.least; greatest = None }
