-- What rows cost under the median at a whole value.
use Rattle.std.proofs.Common.{◌≡◌, ℕ, zero, suc, ◌+◌, ◌*◌, ◌^◌, ◌<◌, ◌≤◌, List, [], ◌∷◌, take, drop, length, get_or, Some, refl, sym, ap, ◌∙◌, arith}
use Rattle.std.proofs.lemmas.List.{take_more, take_all, take-append-drop}
use Rattle.std.proofs.lemmas.List.Sums.{sum_by-append}
use Rattle.std.proofs.lemmas.Option.{get_or_from_slice_get}
use Rattle.std.specs.Prelude.{ℤ, pos, negsuc, ◌-ℤ◌, ◌*ℤ◌, unsigned_abs, slice_get, slice_index_or}
use Rattle.ofit_num.specs.declared.row.Row.{Row}
use Rattle.ofit_num.specs.Fit.{sum_below}
use Rattle.ofit_num.specs.RowTotals.{total_weight}
use Rattle.ofit_num.specs.RowLimits.{AreWithinLimits}
use Rattle.ofit_num.specs.Loss.{Factors, factor_of, residual, row_sum, median}
use Rattle.ofit_num.proofs.Gap.{is_gap, gap-same, gap-mul, pos-gap}
use Rattle.ofit_num.proofs.RowSums.{row_sum-append, row_sum-same}
use Rattle.ofit_num.proofs.TableScaling.{first_power}
use Rattle.ofit_study.specs.Study.{Study, IsValid, groups_of}
use Rattle.ofit_check.specs.PeakSteps.{distance}
use Rattle.ofit_span.proofs.Fittable.{rows_fittable}

pub distances_more : (value : ℤ) (rows : List Row) (i : ℕ) (d : Row) → i < length rows → row_sum (distance value) (take (i + 1) rows) ≡ row_sum (distance value) (take i rows) + distance value (get_or rows i d)
distances_more value rows i d l =
    ap (row_sum (distance value)) (take_more rows i d l) ∙ row_sum-append (distance value) (take i rows) (get_or rows i d ∷ []) ∙ ap (λ (n : ℕ). row_sum (distance value) (take i rows) + n) (alone (distance value (get_or rows i d)))
  where
    alone : (n : ℕ) → n + 0 ≡ n
    alone n = omega arith

pub weight_more : (rows : List Row) (i : ℕ) (d : Row) → i < length rows → total_weight (take (i + 1) rows) ≡ total_weight (take i rows) + (get_or rows i d).weight
weight_more rows i d l = omega (arith, ap total_weight (take_more rows i d l), sum_by-append (λ (r : Row). r.weight) (take i rows) (get_or rows i d ∷ []))

pub weight_upto : (rows : List Row) (i : ℕ) → total_weight (take i rows) ≤ total_weight rows
weight_upto rows i = omega (arith, ap total_weight (take-append-drop i rows), sum_by-append (λ (r : Row). r.weight) (take i rows) (drop i rows))

abbrev once : Factors
once = record { above = 1; below = 1 }

one_factor : (x : ℤ) → factor_of once x ≡ 1
one_factor (pos zero) = refl
one_factor (pos (suc n)) = refl
one_factor (negsuc n) = refl

one_scale : (z : ℤ) → pos 1 *ℤ z ≡ z
one_scale z = rw (is_gap z) (simp (pos-gap, gap-mul) (gap-same _ _ _ _ (omega arith)))

one_distance : (value : ℤ) (r : Row) → distance value r ≡ r.weight * (factor_of once (residual r value 1) * unsigned_abs (residual r value 1) ^ 1)
one_distance value r =
    let far : r.value -ℤ value ≡ residual r value 1 = ap (λ (z : ℤ). z -ℤ value) (sym (one_scale r.value)) in
    ap (λ (z : ℤ). r.weight * unsigned_abs z) far
    ∙ once_more r.weight (unsigned_abs (residual r value 1))
    ∙ ap (λ (n : ℕ). r.weight * (1 * n)) (first_power (unsigned_abs (residual r value 1)))
    ∙ ap (λ (k : ℕ). r.weight * (k * unsigned_abs (residual r value 1) ^ 1)) (sym (one_factor (residual r value 1)))
  where
    once_more : (w x : ℕ) → w * x ≡ w * (1 * x)
    once_more w x = omega arith

pub distances_cost : (value : ℤ) (rows : List Row) (i : ℕ) → length rows ≤ i → row_sum (distance value) (take i rows) ≡ median.cost rows value 1
distances_cost value rows i l = ap (row_sum (distance value)) (take_all i rows l) ∙ row_sum-same (distance value) _ rows (one_distance value)

-- a sum of one term more
pub sum_more : (f : ℕ → ℕ) (n : ℕ) → sum_below f (n + 1) ≡ sum_below f n + f n
sum_more f n = ap (sum_below f) (let k : n + 1 ≡ suc n = omega arith in k)

pub rows_limited : (s : Study) → IsValid s → (g : ℕ) (rows : List Row) → slice_get (groups_of s) g ≡ Some rows → AreWithinLimits rows
rows_limited s v g rows e = (rows_fittable s v g rows e).limits

pub number_there : (xs : List ℤ) (j : ℕ) (x : ℤ) → slice_get xs j ≡ Some x → slice_index_or xs j (pos 0) ≡ x
number_there xs j x e = get_or_from_slice_get xs j x (pos 0) e
