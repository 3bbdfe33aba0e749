use Rattle.std.proofs.Common.{◌≡◌, ℕ, ◌+◌, take}
use Rattle.std.specs.Prelude.{sum_by}
use Rattle.ofit_loss.specs.declared.entry.Entry.{Entry}
use Rattle.ofit_loss.specs.Quantile.{IsSplit, pool_sum}
use Rattle.ofit_loss.proofs.quantile.QuantilePool.insert_low.Given as goal

abbrev pub invariant-loop-entry : goal.invariant-loop-entry
invariant-loop-entry l = record {
  split : IsSplit l.self;
  same : (f : Entry → ℕ) → pool_sum f l.self ≡ pool_sum f l.fn.self + sum_by f (take l.entry-index l.entries);
}
