use Rattle.std.proofs.Common.{ℕ, ◌<◌, ◌+◌}
use Rattle.std.specs.Int.{IsGcd}
use Rattle.ofit_num.proofs.divisor.divisor_of.Given as goal

abbrev pub invariant-loop-right : goal.invariant-loop-right
invariant-loop-right l = record { same : (g : ℕ) → IsGcd l.left l.right g → IsGcd l.fn.a l.fn.b g; some : 0 < l.left + l.right }

abbrev pub decreases-loop-right : goal.decreases-loop-right
decreases-loop-right l = l.right
