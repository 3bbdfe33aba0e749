-- Spans of balances, whose ends can be open.
use Rattle.std.specs.Prelude.{◌≡◌, ℕ, max, List, slice_index_or, sum_by, Option, Some, None, ℤ, pos, ◌≤ℤ◌, unsigned_abs}
use Rattle.ofit_cut.specs.declared.span.Span.{Span}

-- the end, or 0 where it is open
abbrev pub end_or_zero : Option ℤ → ℤ
end_or_zero None = pos 0
end_or_zero (Some b) = b

-- a span with both ends open, which stands past the end of a list of spans
abbrev pub no_limits : Span
no_limits = record { least = None; greatest = None }

-- the span of a node by the list of all nodes' spans
abbrev pub span_at : List Span → ℕ → Span
span_at spans node = slice_index_or spans node no_limits

-- the greater absolute value of the two ends, where an open end counts 0
abbrev pub span_size : Span → ℕ
span_size span = max (unsigned_abs (end_or_zero span.least)) (unsigned_abs (end_or_zero span.greatest))

-- the spans' sizes, summed
abbrev pub total_span : List Span → ℕ
total_span spans = sum_by span_size spans

-- where both ends stand, the least is at most the greatest
abbrev pub IsOrdered : Span → Type 0
IsOrdered span = (least greatest : ℤ) → span.least ≡ Some least → span.greatest ≡ Some greatest → least ≤ℤ greatest

-- the balance is at least the least end and at most the greatest, as far as these stand
pub record IsInSpan (span : Span) (balance : ℤ) : Type 0 where
  pub least : (end : ℤ) → span.least ≡ Some end → end ≤ℤ balance
  pub greatest : (end : ℤ) → span.greatest ≡ Some end → balance ≤ℤ end
