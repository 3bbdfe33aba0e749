use Rattle.std.proofs.Common.{arith, ap, List}
use Rattle.std.specs.Prelude.{sum_by}
use Rattle.std.specs.declared.cmp.Reverse.{Reverse}
use Rattle.ofit_num.specs.declared.row.Row.{Row}
use Rattle.ofit_loss.specs.declared.entry.Entry.{Entry}
use Rattle.ofit_loss.specs.Entry.{entry_of}
use Rattle.ofit_loss.proofs.Heaps.{parted_sum}
use Rattle.ofit_loss.proofs.quantile.QuantilePool.of.Goals as goal

pub insert_rows-requires-clause-weight : goal.insert_rows-requires-clause-weight
insert_rows-requires-clause-weight c = omega (
  arith,
  parted_sum (λ (r : Row). r.weight) c.args.rows.now c.split_at.result.0.now c.split_at.result.1.now c.split_at-2.result.0.now c.split_at-2.result.1.now _ _ c.split_at.ensures.front c.split_at.ensures.back c.split_at-2.ensures.front c.split_at-2.ensures.back,
  c.requires.limits.together,
)

pub balance-requires-clause-weight : goal.balance-requires-clause-weight
balance-requires-clause-weight c = omega (
  arith,
  c.in_ok-insert_rows.ensures.split.weight,
  ap (λ (xs : List Entry). sum_by (λ (e : Entry). e.weight) xs) c.new.ensures.items,
  ap (λ (xs : List (Reverse Entry)). sum_by (λ e. (λ (e : Entry). e.weight) e.0) xs) c.new-2.ensures.items,
  c.in_ok-insert_rows.ensures.rows (λ (e : Entry). e.weight),
  parted_sum (λ (r : Row). r.weight) c.args.rows.now c.split_at.result.0.now c.split_at.result.1.now c.split_at-2.result.0.now c.split_at-2.result.1.now _ _ c.split_at.ensures.front c.split_at.ensures.back c.split_at-2.ensures.front c.split_at-2.ensures.back,
  c.requires.limits.together,
)

pub insert_rows-requires-2-clause-weight : goal.insert_rows-requires-2-clause-weight
insert_rows-requires-2-clause-weight c = omega (
  arith,
  c.in_ok-balance.ensures.balanced.split.weight,
  ap (λ (xs : List Entry). sum_by (λ (e : Entry). e.weight) xs) c.new.ensures.items,
  ap (λ (xs : List (Reverse Entry)). sum_by (λ e. (λ (e : Entry). e.weight) e.0) xs) c.new-2.ensures.items,
  c.in_ok-insert_rows.ensures.rows (λ (e : Entry). e.weight),
  c.in_ok-balance.ensures.rows (λ (e : Entry). e.weight),
  parted_sum (λ (r : Row). r.weight) c.args.rows.now c.split_at.result.0.now c.split_at.result.1.now c.split_at-2.result.0.now c.split_at-2.result.1.now _ _ c.split_at.ensures.front c.split_at.ensures.back c.split_at-2.ensures.front c.split_at-2.ensures.back,
  c.requires.limits.together,
)

pub insert_rows-requires-3-clause-weight : goal.insert_rows-requires-3-clause-weight
insert_rows-requires-3-clause-weight c = omega (
  arith,
  c.in_ok-insert_rows-2.ensures.split.weight,
  ap (λ (xs : List Entry). sum_by (λ (e : Entry). e.weight) xs) c.new.ensures.items,
  ap (λ (xs : List (Reverse Entry)). sum_by (λ e. (λ (e : Entry). e.weight) e.0) xs) c.new-2.ensures.items,
  c.in_ok-insert_rows.ensures.rows (λ (e : Entry). e.weight),
  c.in_ok-balance.ensures.rows (λ (e : Entry). e.weight),
  c.in_ok-insert_rows-2.ensures.rows (λ (e : Entry). e.weight),
  parted_sum (λ (r : Row). r.weight) c.args.rows.now c.split_at.result.0.now c.split_at.result.1.now c.split_at-2.result.0.now c.split_at-2.result.1.now _ _ c.split_at.ensures.front c.split_at.ensures.back c.split_at-2.ensures.front c.split_at-2.ensures.back,
  c.requires.limits.together,
)

pub balance-requires-2-clause-weight : goal.balance-requires-2-clause-weight
balance-requires-2-clause-weight c = omega (
  arith,
  c.in_ok-insert_rows-3.ensures.split.weight,
  ap (λ (xs : List Entry). sum_by (λ (e : Entry). e.weight) xs) c.new.ensures.items,
  ap (λ (xs : List (Reverse Entry)). sum_by (λ e. (λ (e : Entry). e.weight) e.0) xs) c.new-2.ensures.items,
  c.in_ok-insert_rows.ensures.rows (λ (e : Entry). e.weight),
  c.in_ok-balance.ensures.rows (λ (e : Entry). e.weight),
  c.in_ok-insert_rows-2.ensures.rows (λ (e : Entry). e.weight),
  c.in_ok-insert_rows-3.ensures.rows (λ (e : Entry). e.weight),
  parted_sum (λ (r : Row). r.weight) c.args.rows.now c.split_at.result.0.now c.split_at.result.1.now c.split_at-2.result.0.now c.split_at-2.result.1.now _ _ c.split_at.ensures.front c.split_at.ensures.back c.split_at-2.ensures.front c.split_at-2.ensures.back,
  c.requires.limits.together,
)

pub returns : goal.returns
returns c = record {
  balanced = c.in_ok-balance-2.ensures.balanced;
  same = λ f. omega (
    arith,
    ap (λ (xs : List Entry). sum_by f xs) c.new.ensures.items,
    ap (λ (xs : List (Reverse Entry)). sum_by (λ e. f e.0) xs) c.new-2.ensures.items,
    c.in_ok-insert_rows.ensures.rows f,
    c.in_ok-balance.ensures.rows f,
    c.in_ok-insert_rows-2.ensures.rows f,
    c.in_ok-insert_rows-3.ensures.rows f,
    c.in_ok-balance-2.ensures.rows f,
    parted_sum (λ (r : Row). f (entry_of r)) c.args.rows.now c.split_at.result.0.now c.split_at.result.1.now c.split_at-2.result.0.now c.split_at-2.result.1.now _ _ c.split_at.ensures.front c.split_at.ensures.back c.split_at-2.ensures.front c.split_at-2.ensures.back,
  );
}
