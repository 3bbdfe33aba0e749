use Rattle.std.proofs.Common.{◌≡◌, ◌<◌, ◌+◌, ◌-◌, ℕ, [], length, get_or}
use Rattle.ofit_study.specs.Study.{problem_stated}
use Rattle.ofit_sides.specs.Sides.{IsFall}
use Rattle.ofit_sides.proofs.sides.falls_of.Given as goal

abbrev pub invariant-loop-place : goal.invariant-loop-place
invariant-loop-place l = record {
  count : length l.falls.items ≡ l.place;
  each : (i : ℕ) → i < l.place → IsFall (λ j. (problem_stated l.study).rows (i + j)) (l.count - i) (get_or l.falls.items i []);
}
