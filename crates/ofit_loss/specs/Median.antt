-- The weights of rows by the side of p/q that they lie on.
use Rattle.std.specs.Prelude.{ℕ, List, cond, sum_by, ℤ, pos, ◌*ℤ◌}
use Rattle.std.specs.Ordering.{int_cmp, is_lt, is_eq, is_gt}
use Rattle.ofit_num.specs.declared.row.Row.{Row}

abbrev pub weight_above : List Row → ℤ → ℕ → ℕ
weight_above rows p q = sum_by (λ r. cond (is_gt (int_cmp (pos q *ℤ r.value) p)) r.weight 0) rows

abbrev pub weight_at : List Row → ℤ → ℕ → ℕ
weight_at rows p q = sum_by (λ r. cond (is_eq (int_cmp (pos q *ℤ r.value) p)) r.weight 0) rows

abbrev pub weight_below : List Row → ℤ → ℕ → ℕ
weight_below rows p q = sum_by (λ r. cond (is_lt (int_cmp (pos q *ℤ r.value) p)) r.weight 0) rows
