-- A balance is in the open span of rows exactly where the span with its open ends left out holds it.
use Rattle.std.proofs.Common.{◌≡◌, List, refl, Bool, true, false}
use Rattle.std.specs.Prelude.{ℤ, ◌≤ℤ◌, ◌↔◌, IfSome}
use Rattle.ofit_num.specs.declared.row.Row.{Row}
use Rattle.ofit_num.specs.Fraction.{Fraction}
use Rattle.ofit_num.specs.Meaning.{Meaning}
use Rattle.ofit_num.specs.Problem.{Bounds}
use Rattle.ofit_num.specs.Span.{is_at, InOpenSpan}
use Rattle.ofit_span.specs.OpenSpan.{open_end, open_span, Holds}

to_end : (P : ℤ → Type 0) (b : Bool) (z : ℤ) → (b ≡ false → P z) → IfSome (open_end b z) P
to_end P true z h = tt
to_end P false z h = h refl

from_end : (P : ℤ → Type 0) (b : Bool) (z : ℤ) → IfSome (open_end b z) P → b ≡ false → P z
from_end P true z h e = cc
from_end P false z h e = h

pub holds_balance : (m : Meaning) (rows : List Row) (bounds : Bounds) (c : Fraction) (b : ℤ) → Holds (open_span m rows bounds c) b ↔ InOpenSpan m rows bounds c.num c.den b
holds_balance m rows bounds c b = (
  λ h. record {
    least = from_end (λ end. end ≤ℤ b) (is_at bounds.hi c.num c.den) (m.least rows c.num c.den) h.least;
    greatest = from_end (λ end. b ≤ℤ end) (is_at bounds.lo c.num c.den) (m.greatest rows c.num c.den) h.greatest;
  },
  λ h. record {
    least = to_end (λ end. end ≤ℤ b) (is_at bounds.hi c.num c.den) (m.least rows c.num c.den) h.least;
    greatest = to_end (λ end. b ≤ℤ end) (is_at bounds.lo c.num c.den) (m.greatest rows c.num c.den) h.greatest;
  },
)
