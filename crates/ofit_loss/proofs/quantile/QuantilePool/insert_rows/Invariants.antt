use Rattle.std.proofs.Common.{◌≡◌, ℕ, ◌+◌, take}
use Rattle.std.specs.Prelude.{sum_by}
use Rattle.ofit_loss.specs.declared.entry.Entry.{Entry}
use Rattle.ofit_loss.specs.Entry.{entry_of}
use Rattle.ofit_loss.specs.Quantile.{IsSplit, pool_sum}
use Rattle.ofit_loss.proofs.quantile.QuantilePool.insert_rows.Given as goal

abbrev pub invariant-loop-row : goal.invariant-loop-row
invariant-loop-row l = record {
  split : IsSplit l.self;
  same : (f : Entry → ℕ) → pool_sum f l.self ≡ pool_sum f l.fn.self + sum_by (λ r. f (entry_of r)) (take l.row-index l.rows);
}
