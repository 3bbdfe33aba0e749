-- How great the spans of groups are at fractions within their limits, by the factors of their loss.
use Rattle.std.proofs.Common.{◌≡◌, ℕ, zero, suc, ◌*◌, ◌<◌, ◌≤◌, ◌^◌, List, [], ◌∷◌, length, sym, ap, subst, arith, Bool, true, false, cond, mul-le-mul_left}
use Rattle.std.proofs.lemmas.Int.{ints, unsigned_abs-mul}
use Rattle.std.proofs.lemmas.Nat.{mul-le}
use Rattle.std.proofs.lemmas.List.Elements.{All-head, All-tail}
use Rattle.std.proofs.lemmas.List.Sums.{sum_by-cons, sum_by-append}
use Rattle.std.specs.Prelude.{ℤ, pos, negsuc, ◌*ℤ◌, nat_eq, unsigned_abs, All, slice_get, unwrap_or}
use Rattle.ofit_num.specs.declared.row.Row.{Row}
use Rattle.ofit_num.specs.Fraction.{Fraction}
use Rattle.ofit_num.specs.RowTotals.{total_weight, all_rows}
use Rattle.ofit_num.specs.RowLimits.{IsRowWithinLimits}
use Rattle.ofit_num.specs.Loss.{Factors, residual, factor_of, int_row_sum, absolute_least, absolute_greatest, squared_end, table_loss}
use Rattle.ofit_num.specs.Meaning.{Meaning}
use Rattle.ofit_num.specs.Problem.{Bounds}
use Rattle.ofit_num.specs.Reduced.{InLimits}
use Rattle.ofit_num.specs.Span.{is_at}
use Rattle.ofit_num.proofs.Order.{size_add, size_sub}
use Rattle.ofit_cut.specs.declared.span.Span.{Span}
use Rattle.ofit_cut.specs.Span.{span_at, span_size, total_span, end_or_zero}
use Rattle.ofit_study.specs.declared.loss.LossKind.{LossKind}
use Rattle.ofit_study.specs.Loss.{IsListed, meaning_of}
use Rattle.ofit_study.proofs.LossFactors.{of_table}
use Rattle.ofit_cert.specs.OpenSpans.{open_end, open_span}

residual_size : (r : Row) (c : Fraction) → IsRowWithinLimits r → InLimits c → unsigned_abs (residual r c.num c.den) ≤ 2 * 10 ^ 21
residual_size r c h l =
    omega (arith, size_sub (pos c.den *ℤ r.value) c.num, unsigned_abs-mul (pos c.den) r.value, mul-le c.den (unsigned_abs r.value) (10 ^ 12) (10 ^ 9) l.den h.value, l.num)

either_size : (b : Bool) (x y : ℤ) (n : ℕ) → unsigned_abs x ≤ n → unsigned_abs y ≤ n → unsigned_abs (cond b x y) ≤ n
either_size true x y n h k = h
either_size false x y n h k = k

-- a sum whose terms are at most so much by the weights of their rows
by_weights : (m : ℕ) (f : Row → ℤ) → (rows : List Row) → ((r : Row) → IsRowWithinLimits r → unsigned_abs (f r) ≤ m * r.weight) → All IsRowWithinLimits rows → unsigned_abs (int_row_sum f rows) ≤ m * total_weight rows
by_weights m f [] each h = omega arith
by_weights m f (r ∷ rows) each h = omega (
  arith,
  ap (λ (n : ℕ). m * n) (sum_by-cons (λ (x : Row). x.weight) r rows),
  each r (All-head IsRowWithinLimits r rows h),
  by_weights m f rows each (All-tail IsRowWithinLimits r rows h),
  size_add (f r) (int_row_sum f rows),
)

-- factors of at most 100
module _ (f : Factors) (above : f.above ≤ 100) (below : f.below ≤ 100) where
  factor_size : (x : ℤ) → factor_of f x ≤ 100
  factor_size (pos zero) = below
  factor_size (pos (suc n)) = above
  factor_size (negsuc n) = below

  squared_size : (w : ℕ) (x : ℤ) → unsigned_abs x ≤ 2 * 10 ^ 21 → unsigned_abs (squared_end f w x) ≤ 2 * 10 ^ 23 * w
  squared_size w x h =
      omega (arith, unsigned_abs-mul (pos (w * factor_of f x)) x, mul-le (w * factor_of f x) (unsigned_abs x) (w * 100) (2 * 10 ^ 21) (mul-le-mul_left w (factor_size x)) h)

  least_size : (w : ℕ) (x : ℤ) → unsigned_abs (absolute_least f w x) ≤ 2 * 10 ^ 23 * w
  least_size w (pos zero) = omega (arith, ints, mul-le-mul_left w below)
  least_size w (pos (suc n)) = omega (arith, ints, mul-le-mul_left w above)
  least_size w (negsuc n) = omega (arith, ints, mul-le-mul_left w below)

  greatest_size : (w : ℕ) (x : ℤ) → unsigned_abs (absolute_greatest f w x) ≤ 2 * 10 ^ 23 * w
  greatest_size w (pos zero) = omega (arith, ints, mul-le-mul_left w above)
  greatest_size w (pos (suc n)) = omega (arith, ints, mul-le-mul_left w above)
  greatest_size w (negsuc n) = omega (arith, ints, mul-le-mul_left w below)

  table_least : (d : ℕ) (rows : List Row) (c : Fraction) → All IsRowWithinLimits rows → InLimits c → unsigned_abs ((table_loss d f).least rows c.num c.den) ≤ 2 * 10 ^ 23 * total_weight rows
  table_least d rows c h l =
      by_weights (2 * 10 ^ 23) (λ r. cond (nat_eq d 1) (absolute_least f r.weight (residual r c.num c.den)) (squared_end f r.weight (residual r c.num c.den))) rows
      (λ r k. either_size (nat_eq d 1) _ _ _ (least_size r.weight (residual r c.num c.den)) (squared_size r.weight (residual r c.num c.den) (residual_size r c k l))) h

  table_greatest : (d : ℕ) (rows : List Row) (c : Fraction) → All IsRowWithinLimits rows → InLimits c → unsigned_abs ((table_loss d f).greatest rows c.num c.den) ≤ 2 * 10 ^ 23 * total_weight rows
  table_greatest d rows c h l =
      by_weights (2 * 10 ^ 23) (λ r. cond (nat_eq d 1) (absolute_greatest f r.weight (residual r c.num c.den)) (squared_end f r.weight (residual r c.num c.den))) rows
      (λ r k. either_size (nat_eq d 1) _ _ _ (greatest_size r.weight (residual r c.num c.den)) (squared_size r.weight (residual r c.num c.den) (residual_size r c k l))) h

pub least_within : (k : LossKind) → IsListed k → (rows : List Row) (c : Fraction) → All IsRowWithinLimits rows → InLimits c → unsigned_abs ((meaning_of k).least rows c.num c.den) ≤ 2 * 10 ^ 23 * total_weight rows
least_within k listed rows c h l =
    let t = of_table k listed in
    subst (λ (m : Meaning). unsigned_abs (m.least rows c.num c.den) ≤ 2 * 10 ^ 23 * total_weight rows) (sym t.same) (table_least t.factors t.above t.below t.degree rows c h l)

pub greatest_within : (k : LossKind) → IsListed k → (rows : List Row) (c : Fraction) → All IsRowWithinLimits rows → InLimits c → unsigned_abs ((meaning_of k).greatest rows c.num c.den) ≤ 2 * 10 ^ 23 * total_weight rows
greatest_within k listed rows c h l =
    let t = of_table k listed in
    subst (λ (m : Meaning). unsigned_abs (m.greatest rows c.num c.den) ≤ 2 * 10 ^ 23 * total_weight rows) (sym t.same) (table_greatest t.factors t.above t.below t.degree rows c h l)

end_size : (b : Bool) (z : ℤ) → unsigned_abs (end_or_zero (open_end b z)) ≤ unsigned_abs z
end_size true z = omega arith
end_size false z = omega arith

pub open_span_within : (k : LossKind) → IsListed k → (rows : List Row) (bounds : Bounds) (c : Fraction) → All IsRowWithinLimits rows → InLimits c → span_size (open_span (meaning_of k) rows bounds c) ≤ 2 * 10 ^ 23 * total_weight rows
open_span_within k listed rows bounds c h l = omega (
  arith,
  end_size (is_at bounds.hi c.num c.den) ((meaning_of k).least rows c.num c.den),
  end_size (is_at bounds.lo c.num c.den) ((meaning_of k).greatest rows c.num c.den),
  least_within k listed rows c h l,
  greatest_within k listed rows c h l,
)

-- spans that are at most so much by the weights of their groups
pub total_within : (m : ℕ) (spans : List Span) (groups : List (List Row)) → length spans ≡ length groups
    → ((k : ℕ) → k < length groups → span_size (span_at spans k) ≤ m * total_weight (unwrap_or (slice_get groups k) [])) → total_span spans ≤ m * total_weight (all_rows groups)
total_within m [] [] e h = omega arith
total_within m [] (rows ∷ groups) e h = absurd (omega arith)
total_within m (span ∷ spans) [] e h = absurd (omega arith)
total_within m (span ∷ spans) (rows ∷ groups) e h =
    let first : span_size span ≤ m * total_weight rows = h 0 (omega arith) in
    let rest : total_span spans ≤ m * total_weight (all_rows groups) = total_within m spans groups (omega arith) (λ k l. h (suc k) (omega arith)) in
    omega (arith, first, rest, sum_by-cons span_size span spans, ap (λ (n : ℕ). m * n) (sum_by-append (λ (r : Row). r.weight) rows (all_rows groups)))
