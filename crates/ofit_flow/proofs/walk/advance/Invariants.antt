use Rattle.std.proofs.Common.{ℕ, ◌<◌, ◌≤◌, ◌≡◌, get_or}
use Rattle.ofit_flow.specs.Walk.{IsSpent}
use Rattle.ofit_flow.proofs.walk.advance.Given as goal

abbrev pub invariant-loop-place : goal.invariant-loop-place
invariant-loop-place l =
    (l.spent.items ≡ l.initial.spent.items) × ((i : ℕ) → get_or l.initial.spent.items l.node 0 ≤ i → i < l.place → IsSpent l.edges l.amounts l.levels.items l.node l.above (get_or l.row i 0))
