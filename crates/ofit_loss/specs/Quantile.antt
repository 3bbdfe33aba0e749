-- Rows around their quantile, and the quantile itself.
use Rattle.std.specs.Prelude.{◌≡◌, ℕ, ◌+◌, ◌*◌, ◌<◌, ◌≤◌, List, All, cond, sum_by, ℤ, ◌≤ℤ◌}
use Rattle.std.specs.BinaryHeap.{heap_items, IsHeap}
use Rattle.std.specs.Ordering.{int_cmp, is_lt, is_gt}
use Rattle.std.specs.declared.cmp.Reverse.{Reverse}
use Rattle.ofit_num.specs.declared.row.Row.{Row}
use Rattle.ofit_num.specs.RowTotals.{total_weight}
use Rattle.ofit_loss.specs.declared.entry.Entry.{Entry}
use Rattle.ofit_loss.specs.declared.quantile.QuantilePool.{QuantilePool}
use Rattle.ofit_loss.specs.Entry.{entry_cmp, entry_of}
use Rattle.ofit_loss.specs.Pool.{IsFilled}

-- the weight of the rows below a value, and of those at most there
abbrev pub weight_under : ℤ → List Row → ℕ
weight_under v rows = sum_by (λ r. cond (is_lt (int_cmp r.value v)) r.weight 0) rows

abbrev pub weight_upto : ℤ → List Row → ℕ
weight_upto v rows = sum_by (λ r. cond (is_gt (int_cmp r.value v)) 0 r.weight) rows

-- At most the value lies the share above / (above + below) of the weight, and below it less than that.
pub record IsQuantile (above below : ℕ) (rows : List Row) (v : ℤ) : Type 0 where
  pub reached : above * total_weight rows ≤ (above + below) * weight_upto v rows
  pub least : (above + below) * weight_under v rows < above * total_weight rows

-- a sum over the rows of the lower side, of the upper side, and of both
abbrev pub low_sum : (Entry → ℕ) → QuantilePool → ℕ
low_sum f pool = sum_by f (heap_items pool.low)

abbrev pub high_sum : (Entry → ℕ) → QuantilePool → ℕ
high_sum f pool = sum_by (λ e. f e.0) (heap_items pool.high)

abbrev pub pool_sum : (Entry → ℕ) → QuantilePool → ℕ
pool_sum f pool = low_sum f pool + high_sum f pool

-- what an entry weighs below a value
abbrev pub entry_under : ℤ → Entry → ℕ
entry_under v e = cond (is_lt (int_cmp e.value v)) e.weight 0

-- no row of the lower side lies above one of the upper side
abbrev pub AreApart : List Entry → List (Reverse Entry) → Type 0
AreApart low high = All (λ y. All (λ x. x.value ≤ℤ y.0.value) low) high

-- each side is a heap, they are apart, and the weights are those of the lower side and of all
pub record IsSplit (pool : QuantilePool) : Type 0 where
  pub low_order : IsHeap entry_cmp (heap_items pool.low)
  pub high_order : IsHeap (λ x y. entry_cmp y.0 x.0) (heap_items pool.high)
  pub apart : AreApart (heap_items pool.low) (heap_items pool.high)
  pub low_weight : pool.low_weight ≡ low_sum (λ e. e.weight) pool
  pub weight : pool.weight ≡ pool_sum (λ e. e.weight) pool

-- less than the share lies below each row of the lower side
abbrev pub IsLeastShare : ℕ → ℕ → QuantilePool → Type 0
IsLeastShare above below pool = All (λ x. (above + below) * low_sum (entry_under x.value) pool < above * pool.weight) (heap_items pool.low)

-- the lower side is the share of the weight, and below each of its rows lies less
pub record IsBalanced (above below : ℕ) (pool : QuantilePool) : Type 0 where
  pub split : IsSplit pool
  pub reached : above * pool.weight ≤ (above + below) * pool.low_weight
  pub least : IsLeastShare above below pool

-- The balanced pool has these rows, in any order: whatever is summed, its rows and these give the same.
pub record IsQuantilePool (above below : ℕ) (pool : QuantilePool) (rows : List Row) : Type 0 where
  pub balanced : IsBalanced above below pool
  pub same : (f : Entry → ℕ) → pool_sum f pool ≡ sum_by (λ r. f (entry_of r)) rows

-- the pool is, for some factors, one of rows that a loss takes, of which there is at least one
pub record HasQuantile (pool : QuantilePool) : Type 0 where
  pub above : ℕ
  pub below : ℕ
  pub some : 0 < above
  pub filled : IsFilled (IsQuantilePool above below) pool

-- what a residual above 0 and one below 0 may count
pub record AreFactors (above below : ℕ) : Type 0 where
  pub some : 0 < above
  pub above_limit : above ≤ 100
  pub below_limit : below ≤ 100
