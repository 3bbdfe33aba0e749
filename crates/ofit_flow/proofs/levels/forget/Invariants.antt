use Rattle.std.proofs.Common.{◌≡◌, ◌<◌, ℕ, length, get_or, None}
use Rattle.ofit_flow.proofs.levels.forget.Given as goal

abbrev pub invariant-loop-node : goal.invariant-loop-node
invariant-loop-node l = (length l.levels.items ≡ length l.initial.levels.items) × ((v : ℕ) → v < l.node → get_or l.levels.items v None ≡ None)
