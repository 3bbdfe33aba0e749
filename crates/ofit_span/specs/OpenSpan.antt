-- The span of a group at a value, whose ends are open where a bound bars the move.
use Rattle.std.specs.Prelude.{ℕ, Bool, true, false, List, Option, Some, None, IfSome, ℤ, ◌≤ℤ◌}
use Rattle.ofit_num.specs.declared.row.Row.{Row}
use Rattle.ofit_num.specs.Fraction.{Fraction}
use Rattle.ofit_num.specs.Meaning.{Meaning}
use Rattle.ofit_num.specs.Problem.{Bounds}
use Rattle.ofit_num.specs.Span.{is_at}
use Rattle.ofit_study.specs.Study.{Study, problem_stated, meaning_of}
use Rattle.ofit_span.specs.declared.span.OpenSpan.{OpenSpan}

-- the end of a span, which is open at the bound
abbrev pub open_end : Bool → ℤ → Option ℤ
open_end true end = None
open_end false end = Some end

-- the span of rows at a value: its least end is open at the upper bound, its greatest one at the lower bound
abbrev pub open_span : Meaning → List Row → Bounds → Fraction → OpenSpan
open_span m rows bounds c = record {
  least = open_end (is_at bounds.hi c.num c.den) (m.least rows c.num c.den);
  greatest = open_end (is_at bounds.lo c.num c.den) (m.greatest rows c.num c.den);
}

-- the span of a study's group at a value, by the study's loss and the group's bounds
abbrev pub group_span : Study → ℕ → Fraction → OpenSpan
group_span s place c = open_span (meaning_of s.settings.loss) ((problem_stated s).rows place) ((problem_stated s).bounds place) c

-- the balance is between the ends that stand
pub record Holds (span : OpenSpan) (b : ℤ) : Type 0 where
  pub least : IfSome span.least (λ end. end ≤ℤ b)
  pub greatest : IfSome span.greatest (λ end. b ≤ℤ end)
