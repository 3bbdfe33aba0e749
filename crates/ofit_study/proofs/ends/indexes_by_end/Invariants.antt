use Rattle.std.proofs.Common.{◌≡◌, ℕ, [], length, slice_index_or}
use Rattle.ofit_study.specs.Ends.{lists_of, indexes_upto}
use Rattle.ofit_study.proofs.ends.indexes_by_end.Given as goal

abbrev pub invariant-loop-index : goal.invariant-loop-index
invariant-loop-index l = record {
  counted : length l.lists.items ≡ l.fn.count;
  each : (g : ℕ) → slice_index_or (lists_of l.lists.items) g [] ≡ indexes_upto l.pairs l.index g;
}
