use Rattle.std.proofs.Common.{◌≡◌, ◌<◌, ℕ, length, take, get_or}
use Rattle.ofit_flow.specs.Incidence.{degree}
use Rattle.ofit_flow.proofs.incidence.degrees_of.Given as goal

abbrev pub invariant-loop-edge : goal.invariant-loop-edge
invariant-loop-edge l = (length l.degrees.items ≡ l.nodes) × ((v : ℕ) → v < l.nodes → get_or l.degrees.items v 0 ≡ degree (take l.edge-index l.edges) v)
