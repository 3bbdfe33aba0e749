use Rattle.std.proofs.Common.{ℕ, ◌<◌, pos, ◌≤ℤ◌, ◌<ℤ◌}
use Rattle.ofit_flow.specs.Walk.{step_at}
use Rattle.ofit_flow.proofs.augment.width_of.Given as goal

abbrev pub invariant-loop-step : goal.invariant-loop-step
invariant-loop-step l = (pos 0 <ℤ l.width) × ((k : ℕ) → k < l.step-index → l.width ≤ℤ (step_at l.path k).room)
