use Rattle.std.proofs.Common.{◌≡◌, ◌<◌, ℕ, length, get_or}
use Rattle.ofit_flow.proofs.walk.Walk.restart.Given as goal

abbrev pub invariant-loop-node : goal.invariant-loop-node
invariant-loop-node l = (length l.self.spent.items ≡ length l.initial.self.spent.items) × ((v : ℕ) → v < l.node → get_or l.self.spent.items v 0 ≡ 0)
