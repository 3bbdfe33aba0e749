use Rattle.std.proofs.Common.{◌≡◌, List, ℕ, ◌++◌, length}
use Rattle.ofit_num.specs.DecimalText.{IsSpaces}
use Rattle.ofit_num.proofs.decimal.digits.after_spaces.Given as goal

abbrev pub invariant-loop-first : goal.invariant-loop-first
invariant-loop-first l = (spaces : List ℕ) × IsSpaces spaces × (l.text ≡ spaces ++ l.rest)

abbrev pub decreases-loop-first : goal.decreases-loop-first
decreases-loop-first l = length l.rest
