use Rattle.std.proofs.Common.{◌≡◌, ℕ}
use Rattle.std.specs.BinaryHeap.{heap_len}
use Rattle.ofit_loss.specs.declared.entry.Entry.{Entry}
use Rattle.ofit_loss.specs.Quantile.{IsSplit, IsLeastShare, pool_sum}
use Rattle.ofit_loss.proofs.quantile.QuantilePool.fill.Given as goal

abbrev pub invariant-loop-factors : goal.invariant-loop-factors
invariant-loop-factors l = record {
  split : IsSplit l.self;
  least : IsLeastShare l.factors.above l.factors.below l.self;
  same : (f : Entry → ℕ) → pool_sum f l.self ≡ pool_sum f l.fn.self;
}

abbrev pub decreases-loop-factors : goal.decreases-loop-factors
decreases-loop-factors l = heap_len l.self.high
