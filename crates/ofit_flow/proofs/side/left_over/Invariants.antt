use Rattle.std.proofs.Common.{◌≡◌, ◌<◌, ℕ, length}
use Rattle.std.specs.Prelude.{◌-ℤ◌}
use Rattle.ofit_flow.specs.Flow.{amount_at, edge_at}
use Rattle.ofit_flow.proofs.side.left_over.Given as goal

abbrev pub invariant-loop-number : goal.invariant-loop-number
invariant-loop-number l =
    (length l.left.items ≡ l.number) × ((k : ℕ) → k < l.number → amount_at l.left.items k ≡ (edge_at l.edges k).cap -ℤ amount_at l.amounts k)
