-- What rows cost under absolute differences, by their distances from the value.
use Rattle.std.proofs.Common.{◌≡◌, ℕ, ◌+◌, ◌*◌, ◌^◌, ◌<◌, ◌≤◌, List, [], ◌∷◌, take, drop, length, get_or, ap, sym, ◌∙◌, arith}
use Rattle.std.proofs.lemmas.List.{take_more, take_all, take-append-drop}
use Rattle.std.proofs.lemmas.List.Sums.{sum_by-append}
use Rattle.std.specs.Prelude.{unsigned_abs}
use Rattle.ofit_num.specs.declared.row.Row.{Row}
use Rattle.ofit_num.specs.Fraction.{Fraction}
use Rattle.ofit_num.specs.RowTotals.{total_weight}
use Rattle.ofit_num.specs.Loss.{factor_of, residual, row_sum, median}
use Rattle.ofit_num.proofs.RowSums.{row_sum-append, row_sum-same}
use Rattle.ofit_num.proofs.TableScaling.{first_power}
use Rattle.ofit_report.specs.RowSums.{distance}
use Rattle.ofit_report.proofs.Costs.{once, one_factor}

pub distances_more : (value : Fraction) (rows : List Row) (i : ℕ) (d : Row) → i < length rows → row_sum (λ r. distance r value) (take (i + 1) rows) ≡ row_sum (λ r. distance r value) (take i rows) + distance (get_or rows i d) value
distances_more value rows i d l =
    ap (row_sum (λ r. distance r value)) (take_more rows i d l) ∙ row_sum-append (λ r. distance r value) (take i rows) (get_or rows i d ∷ [])
    ∙ ap (λ (n : ℕ). row_sum (λ r. distance r value) (take i rows) + n) (alone (distance (get_or rows i d) value))
  where
    alone : (n : ℕ) → n + 0 ≡ n
    alone n = omega arith

pub weight_more : (rows : List Row) (i : ℕ) (d : Row) → i < length rows → total_weight (take (i + 1) rows) ≡ total_weight (take i rows) + (get_or rows i d).weight
weight_more rows i d l = omega (arith, ap total_weight (take_more rows i d l), sum_by-append (λ (r : Row). r.weight) (take i rows) (get_or rows i d ∷ []))

pub weight_upto : (rows : List Row) (i : ℕ) → i ≤ length rows → total_weight (take i rows) ≤ total_weight rows
weight_upto rows i l = omega (arith, ap total_weight (take-append-drop i rows), sum_by-append (λ (r : Row). r.weight) (take i rows) (drop i rows))

one_distance : (value : Fraction) (r : Row) → distance r value ≡ r.weight * (factor_of once (residual r value.num value.den) * unsigned_abs (residual r value.num value.den) ^ 1)
one_distance value r =
    turned (unsigned_abs (residual r value.num value.den)) r.weight
    ∙ ap (λ (n : ℕ). r.weight * (1 * n)) (first_power (unsigned_abs (residual r value.num value.den)))
    ∙ ap (λ (k : ℕ). r.weight * (k * unsigned_abs (residual r value.num value.den) ^ 1)) (sym (one_factor (residual r value.num value.den)))
  where
    turned : (x w : ℕ) → x * w ≡ w * (1 * x)
    turned x w = omega arith

pub distances_cost : (value : Fraction) (rows : List Row) (i : ℕ) → length rows ≤ i → row_sum (λ r. distance r value) (take i rows) ≡ median.cost rows value.num value.den
distances_cost value rows i l = ap (row_sum (λ r. distance r value)) (take_all i rows l) ∙ row_sum-same (λ r. distance r value) _ rows (one_distance value)
