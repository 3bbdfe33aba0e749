use Rattle.std.proofs.Common.{◌≡◌, ◌<◌, ◌-◌, ℕ, length}
use Rattle.ofit_sheet.specs.PeakVerdict.{value_at, amount_at, amount_before}
use Rattle.ofit_sides.proofs.turn.turned.Given as goal

abbrev pub invariant-loop-index : goal.invariant-loop-index
invariant-loop-index l = record {
  count : length l.steps.items ≡ l.index;
  values : (j : ℕ) → j < l.index → value_at l.steps.items j ≡ value_at l.side (l.count - 1 - j);
  amounts : (j : ℕ) → j < l.index → amount_at l.steps.items j ≡ amount_before l.side (l.count - 1 - j);
}
