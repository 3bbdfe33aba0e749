-- What a balance of flows answers.
use Rattle.std.specs.Prelude.{ℕ, List, length}
use Rattle.ofit_cut.specs.declared.span.Span.{Span}
use Rattle.ofit_cut.specs.declared.balanced.Balanced.{Balanced}
use Rattle.ofit_cut.specs.declared.balanced.Balanced.TheVariants.{Flows, Above, Below}
use Rattle.ofit_cut.specs.Balance.{AreBalanced}
use Rattle.ofit_cut.specs.Members.{AreNodes, has_node}
use Rattle.ofit_cut.specs.Barrier.{IsAbove, IsBelow}

-- flows within the spans, or a set against them
abbrev pub Tells : List (ℕ × ℕ) → List Span → Balanced → Type 0
Tells pairs spans (Flows amounts) = AreBalanced pairs spans amounts
Tells pairs spans (Above nodes) = AreNodes (length spans) nodes × IsAbove pairs spans (has_node nodes)
Tells pairs spans (Below nodes) = AreNodes (length spans) nodes × IsBelow pairs spans (has_node nodes)

-- the answer is Above
abbrev pub IsAboveAnswer : Balanced → Type 0
IsAboveAnswer (Above nodes) = Unit {0}
IsAboveAnswer answer = ⊥

-- the answer is Below
abbrev pub IsBelowAnswer : Balanced → Type 0
IsBelowAnswer (Below nodes) = Unit {0}
IsBelowAnswer answer = ⊥
