-- how great weighted values and their sums are
use Rattle.std.proofs.Common.{◌≡◌, ℕ, zero, suc, ◌+◌, ◌*◌, ◌≤◌, ◌<◌, ◌^◌, List, [], ◌∷◌, take, length, get_or, refl, ap, ap₂, subst, sym, ◌∙◌, arith, mul-le-mul_left}
use lib.IntN.{neg_ℤ}
use Rattle.std.proofs.lemmas.Int.{ints}
use Rattle.std.proofs.lemmas.List.{take_more}
use Rattle.std.proofs.lemmas.List.Elements.{All-head, All-tail}
use Rattle.std.proofs.lemmas.List.Sums.{sum_by-cons}
use Rattle.std.specs.Prelude.{ℤ, pos, negsuc, ◌+ℤ◌, ◌*ℤ◌, unsigned_abs, All, sum_by}
use Rattle.ofit_num.specs.declared.row.Row.{Row}
use Rattle.ofit_num.specs.RowTotals.{total_weight}
use Rattle.ofit_num.specs.RowLimits.{IsRowWithinLimits, AreWithinLimits}
use Rattle.ofit_num.specs.Loss.{int_row_sum}
use Rattle.ofit_num.proofs.RowSums.{int_row_sum-append}
use Rattle.ofit_loss.specs.Squares.{weighted_sum}
use Rattle.ofit_num.proofs.Order.{size_add}

abs_neg : (m : ℕ) → unsigned_abs (neg_ℤ (pos m)) ≡ m
abs_neg zero = refl
abs_neg (suc m) = refl

pub size_product : (z : ℤ) (w : ℕ) → unsigned_abs (z *ℤ pos w) ≡ unsigned_abs z * w
size_product (pos n) w = refl
size_product (negsuc n) w = abs_neg (suc n * w)

pub product_le : (z : ℤ) (w m : ℕ) → unsigned_abs z ≤ m → unsigned_abs (z *ℤ pos w) ≤ m * w
product_le z w m h = omega (arith, size_product z w, mul-le-mul_left w h)

-- a product of two numbers that are known to be z and w
pub product_of_le : (r a b z : ℤ) (w m : ℕ) → r ≡ a *ℤ b → a ≡ z → b ≡ pos w → unsigned_abs z ≤ m → unsigned_abs r ≤ m * w
product_of_le r a b z w m e f g h = subst (λ (t : ℤ). unsigned_abs t ≤ m * w) (sym (e ∙ ap₂ (λ (x y : ℤ). x *ℤ y) f g)) (product_le z w m h)

-- a sum over one row more
pub int_row_sum-take_more : (f : Row → ℤ) (rs : List Row) (k : ℕ) (d : Row) → k < length rs → int_row_sum f (take (k + 1) rs) ≡ int_row_sum f (take k rs) +ℤ f (get_or rs k d)
int_row_sum-take_more f rs k d l = rw (take_more rs k d l) (int_row_sum-append f (take k rs) (get_or rs k d ∷ []) ∙ ap (λ (z : ℤ). int_row_sum f (take k rs) +ℤ z) (alone (f (get_or rs k d)))) where
  alone : (z : ℤ) → z +ℤ pos 0 ≡ z
  alone z = omega (arith, ints)

pub weighted_size : (rows : List Row) → All IsRowWithinLimits rows → unsigned_abs (weighted_sum rows) ≤ 10 ^ 9 * total_weight rows
weighted_size [] h = omega arith
weighted_size (r ∷ rows) h = omega (
  arith,
  sum_by-cons (λ (r : Row). r.weight) r rows,
  size_add (r.value *ℤ pos r.weight) (weighted_sum rows),
  product_le r.value r.weight (10 ^ 9) (All-head IsRowWithinLimits r rows h).value,
  weighted_size rows (All-tail IsRowWithinLimits r rows h),
)

pub weighted_limit : (rows : List Row) → AreWithinLimits rows → unsigned_abs (weighted_sum rows) ≤ 10 ^ 19
weighted_limit rows h = omega (arith, weighted_size rows h.each, mul-le-mul_left (10 ^ 9) h.together)

-- the sizes of the rows' ends, each at most m times its weight, sum to at most m times the total weight
pub sizes_within : (f : Row → ℕ) (m : ℕ) (rows : List Row) → All IsRowWithinLimits rows → ((r : Row) → IsRowWithinLimits r → f r ≤ m * r.weight) → sum_by f rows ≤ m * total_weight rows
sizes_within f m [] h each = omega arith
sizes_within f m (r ∷ rows) h each = omega (
  arith,
  sum_by-cons f r rows,
  ap (λ (n : ℕ). m * n) (sum_by-cons (λ (r : Row). r.weight) r rows),
  each r (All-head IsRowWithinLimits r rows h),
  sizes_within f m rows (All-tail IsRowWithinLimits r rows h) each,
)
