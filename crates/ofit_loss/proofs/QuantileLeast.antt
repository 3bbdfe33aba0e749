-- the top of a pool's lower side is the quantile of its rows
use Rattle.std.proofs.Common.{◌≡◌, ℕ, ◌+◌, ◌*◌, ◌-◌, ◌≤◌, ◌<◌, ◌^◌, List, [], ◌∷◌, length, get_or, refl, sym, ap, ◌∙◌, subst, arith, mul-le-mul_left, mul-pos}
use Rattle.std.proofs.lemmas.Int.{ints}
use Rattle.std.proofs.lemmas.Cmp.{int_ranked}
use Rattle.std.proofs.lemmas.List.Elements.{All-head, All-tail, All-weaker, All-get_or}
use Rattle.std.proofs.lemmas.List.Sums.{sum_by-cons, get_or-le-sum_by}
use Rattle.std.specs.Prelude.{ℤ, ◌≤ℤ◌, ◌<ℤ◌, All, sum_by, cond, unsigned_abs}
use Rattle.std.specs.BinaryHeap.{heap_items, IsUpperBound}
use Rattle.std.specs.Ordering.{int_cmp, is_gt, MatchOrdering}
use Rattle.std.specs.declared.cmp.Ordering.{Ordering}
use Rattle.std.specs.declared.cmp.Ordering.TheVariants.{Less, Equal, Greater}
use Rattle.std.specs.declared.cmp.Reverse.{Reverse}
use Rattle.ofit_num.specs.declared.row.Row.{Row}
use Rattle.ofit_num.specs.RowTotals.{total_weight}
use Rattle.ofit_num.specs.RowLimits.{IsRowWithinLimits}
use Rattle.ofit_loss.specs.declared.entry.Entry.{Entry}
use Rattle.ofit_loss.specs.declared.quantile.QuantilePool.{QuantilePool}
use Rattle.ofit_loss.specs.Entry.{entry_cmp, entry_of}
use Rattle.ofit_loss.specs.Quantile.{IsQuantile, IsQuantilePool, HasQuantile, entry_under, low_sum}
use Rattle.ofit_loss.proofs.SquaresLeast.{weighs}
use Rattle.ofit_loss.proofs.Heaps.{at_most_top, none_under}

-- what is 0 for each element sums to 0
sum_by-zero : {X : Type 0} (f : X → ℕ) (xs : List X) → All (λ x. f x ≡ 0) xs → sum_by f xs ≡ 0
sum_by-zero f [] h = refl
sum_by-zero f (x ∷ xs) h = omega (arith, sum_by-cons f x xs, All-head (λ x. f x ≡ 0) x xs h, sum_by-zero f xs (All-tail (λ x. f x ≡ 0) x xs h))

-- and sums are equal where each element gives the same
sum_by-same : {X : Type 0} (f g : X → ℕ) (xs : List X) → All (λ x. f x ≡ g x) xs → sum_by f xs ≡ sum_by g xs
sum_by-same f g [] h = refl
sum_by-same f g (x ∷ xs) h = omega (arith, sum_by-cons f x xs, sum_by-cons g x xs, All-head (λ x. f x ≡ g x) x xs h, sum_by-same f g xs (All-tail (λ x. f x ≡ g x) x xs h))

-- what an entry weighs at most at a value
abbrev entry_upto : ℤ → Entry → ℕ
entry_upto v e = cond (is_gt (int_cmp e.value v)) 0 e.weight

upto_all : (v : ℤ) (e : Entry) → e.value ≤ℤ v → entry_upto v e ≡ e.weight
upto_all v e h = go (int_cmp e.value v) (int_ranked e.value v (int_cmp e.value v) refl) where
  go : (o : Ordering) → MatchOrdering o (e.value <ℤ v) (e.value ≡ v) (v <ℤ e.value) → cond (is_gt o) 0 e.weight ≡ e.weight
  go Less l = refl
  go Equal l = refl
  go Greater l = absurd (omega (arith, ints, l))

-- a pool of rows has some on its lower side
pub none_filled : (pool : QuantilePool) → HasQuantile pool → (0 < length (heap_items pool.low) → ⊥) → ⊥
none_filled pool has none = omega (
  arith,
  has.filled.pooled.balanced.reached,
  ap (λ (n : ℕ). (has.above + has.below) * n) (has.filled.pooled.balanced.split.low_weight ∙ empty (heap_items pool.low) none),
  mul-pos has.some (weighs has.filled.rows has.filled.fittable.limits has.filled.some),
  ap (λ (n : ℕ). has.above * n) (has.filled.pooled.balanced.split.weight ∙ has.filled.pooled.same (λ e. e.weight)),
) where
  empty : (low : List Entry) → (0 < length low → ⊥) → sum_by (λ e. e.weight) low ≡ 0
  empty [] l = refl
  empty (e ∷ low) l = absurd (l (omega arith))

module _ (pool : QuantilePool) (top : Entry) (some : 0 < length (heap_items pool.low)) (is : top ≡ get_or (heap_items pool.low) 0 top) where
  pub top_within : HasQuantile pool → unsigned_abs top.value ≤ 10 ^ 9
  top_within has = omega (
    arith,
    get_or-le-sum_by over (heap_items pool.low) 0 top some,
    ap over is,
    has.filled.pooled.same over,
    sum_by-zero (λ r. over (entry_of r)) has.filled.rows (All-weaker IsRowWithinLimits (λ r. over (entry_of r) ≡ 0) (λ r h. omega (arith, h.value)) has.filled.rows has.filled.fittable.limits.each),
  ) where
    over : Entry → ℕ
    over e = unsigned_abs e.value - 10 ^ 9

  pub top_is_quantile : IsUpperBound entry_cmp top (heap_items pool.low) → (above below : ℕ) (rows : List Row) → IsQuantilePool above below pool rows → IsQuantile above below rows top.value
  top_is_quantile upper above below rows h = record {
    reached = omega (arith, h.balanced.reached, ap (λ (n : ℕ). above * n) whole, mul-le-mul_left (above + below) side);
    least = omega (arith, subst (λ (t : Entry). (above + below) * low_sum (entry_under t.value) pool < above * pool.weight) (sym is) (All-get_or (λ (x : Entry). (above + below) * low_sum (entry_under x.value) pool < above * pool.weight) (heap_items pool.low) 0 top some h.balanced.least), ap (λ (n : ℕ). above * n) whole, ap (λ (n : ℕ). (above + below) * n) under);
  } where
    whole : pool.weight ≡ total_weight rows
    whole = h.balanced.split.weight ∙ h.same (λ e. e.weight)

    side : pool.low_weight ≤ sum_by (λ r. entry_upto top.value (entry_of r)) rows
    side = omega (
      arith,
      h.same (entry_upto top.value),
      h.balanced.split.low_weight,
      sum_by-same (entry_upto top.value) (λ e. e.weight) (heap_items pool.low) (All-weaker (λ (x : Entry). x.value ≤ℤ top.value) (λ x. entry_upto top.value x ≡ x.weight) (λ x l. upto_all top.value x l) (heap_items pool.low) (at_most_top top (heap_items pool.low) upper)),
    )

    above_top : All (λ (y : Reverse Entry). entry_under top.value y.0 ≡ 0) (heap_items pool.high)
    above_top = λ k d l. none_under top.value (get_or (heap_items pool.high) k d).0
        (subst (λ (t : Entry). t.value ≤ℤ (get_or (heap_items pool.high) k d).0.value) (sym is) (All-get_or (λ (x : Entry). x.value ≤ℤ (get_or (heap_items pool.high) k d).0.value) (heap_items pool.low) 0 top some (h.balanced.split.apart k d l)))

    under : low_sum (entry_under top.value) pool ≡ sum_by (λ r. entry_under top.value (entry_of r)) rows
    under = omega (arith, h.same (entry_under top.value), sum_by-zero (λ (y : Reverse Entry). entry_under top.value y.0) (heap_items pool.high) above_top)
