-- Spans of groups, which are open where a bound bars the move.
use Rattle.std.specs.Prelude.{◌≡◌, ℕ, Bool, false, List, Option, Some, None, ℤ, pos, ◌*ℤ◌, ◌≤ℤ◌}
use Rattle.std.specs.Ordering.{int_eq}
use Rattle.ofit_num.specs.declared.row.Row.{Row}
use Rattle.ofit_num.specs.Problem.{Bounds}
use Rattle.ofit_num.specs.Meaning.{Meaning}

-- p/q is the bound
abbrev pub is_at : Option ℤ → ℤ → ℕ → Bool
is_at None p q = false
is_at (Some v) p q = int_eq (v *ℤ pos q) p

-- b is in the span at p/q, whose greatest end is open at the lower bound and whose least end is open at the upper one
pub record InOpenSpan (m : Meaning) (rows : List Row) (bounds : Bounds) (p : ℤ) (q : ℕ) (b : ℤ) : Type 0 where
  pub least : is_at bounds.hi p q ≡ false → m.least rows p q ≤ℤ b
  pub greatest : is_at bounds.lo p q ≡ false → b ≤ℤ m.greatest rows p q
