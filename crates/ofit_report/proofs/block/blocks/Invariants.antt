use Rattle.std.proofs.Common.{◌≡◌, ℕ, ◌<◌, get_or, length}
use Rattle.ofit_report.specs.Blocks.{IsBlockOf}
use Rattle.ofit_report.proofs.block.blocks.Given as goal

abbrev pub invariant-loop-place : goal.invariant-loop-place
invariant-loop-place l = record {
  count : length l.blocks.items ≡ l.place;
  each : (g : ℕ) → g < l.place → IsBlockOf l.study l.values (get_or l.blocks.items g 0) g;
}
