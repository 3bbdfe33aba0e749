use Rattle.std.proofs.Common.{◌≡◌, ℕ, ◌<◌, ◌==◌, length, take, slice_index}
use Rattle.std.specs.List.{count_by}
use Rattle.ofit_order.proofs.degrees.tally.Given as goal

abbrev pub invariant-loop-end : goal.invariant-loop-end
invariant-loop-end l = record {
  counted : length l.counts.items ≡ l.fn.places;
  each : (a : ℕ) → a < l.fn.places → slice_index l.counts.items a ≡ count_by (λ x. x == a) (take l.end-index l.ends);
}
