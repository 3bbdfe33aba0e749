use Rattle.std.proofs.Common.{◌≡◌, ◌<◌, ℕ, suc, [], length, take, get_or, false}
use Rattle.ofit_num.specs.Loss.{median}
use Rattle.ofit_loss.specs.Quantile.{IsQuantilePool}
use Rattle.ofit_chain.specs.Stacked.{IsStack}
use Rattle.ofit_sides.specs.FirstFit.{rows_at}
use Rattle.ofit_sides.specs.Sides.{IsRise}
use Rattle.ofit_sides.proofs.sides.rises_along.Given as goal

abbrev pub invariant-loop-place : goal.invariant-loop-place
invariant-loop-place l = record {
  stack : IsStack (IsQuantilePool 1 1) median false (take l.place l.groups) l.stack.blocks.items;
  count : length l.sides.items ≡ l.place;
  each : (i : ℕ) → i < l.place → IsRise (rows_at l.groups) (suc i) (get_or l.sides.items i []);
}
