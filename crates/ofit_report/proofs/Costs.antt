-- What rows cost under squares, by their sums.
use Rattle.std.proofs.Common.{◌≡◌, inl, inr, length, ℕ, zero, suc, ◌+◌, ◌*◌, ◌^◌, ◌<◌, ◌≤◌, List, [], ◌∷◌, refl, ap, sym, ◌∙◌, subst, arith}
use Rattle.std.proofs.lemmas.Int.{ints, unsigned_abs-mul}
use Rattle.std.proofs.lemmas.List.Sums.{sum_by-cons}
use Rattle.std.specs.Prelude.{ℤ, pos, negsuc, ◌+ℤ◌, ◌-ℤ◌, ◌*ℤ◌, ◌≤ℤ◌, unsigned_abs}
use Rattle.ofit_num.specs.declared.row.Row.{Row}
use Rattle.ofit_num.specs.RowTotals.{total_weight}
use Rattle.ofit_num.specs.Loss.{Factors, factor_of, residual, squares}
use Rattle.ofit_num.proofs.Gap.{is_gap, pos-gap, gap-mul, gap-add, gap-sub, gap-same, square-nonneg}
use Rattle.std.proofs.Math.Nat.{pow-succ'}
use Rattle.ofit_num.specs.Fraction.{Fraction}
use Rattle.ofit_num.specs.RowLimits.{AreWithinLimits}
use Rattle.ofit_num.specs.Reduced.{Reduces}
use Rattle.ofit_num.proofs.Order.{zero_mul_ℤ, assoc_swap, cancel_ℤ, cancel_le_ℤ, mul_pos, pow_above}
use Rattle.ofit_num.proofs.TableScaling.{first_power}
use Rattle.ofit_loss.proofs.SquaresLeast.{weighs}
use Rattle.ofit_loss.specs.Squares.{weighted_sum}
use Rattle.ofit_report.specs.BlockMeans.{IsMean, IsWholeValue, IsMeanOrWhole}
use Rattle.ofit_report.specs.RowSums.{weighted_squares}

abbrev pub once : Factors
once = record { above = 1; below = 1 }

pub one_factor : (x : ℤ) → factor_of once x ≡ 1
one_factor (pos zero) = refl
one_factor (pos (suc n)) = refl
one_factor (negsuc n) = refl

own_size : (z : ℤ) → pos 0 ≤ℤ z → pos (unsigned_abs z) ≡ z
own_size z h = omega (arith, ints, h)

squared : (x : ℤ) → pos (unsigned_abs x ^ 2) ≡ x *ℤ x
squared x = ap pos (two (unsigned_abs x) ∙ sym (unsigned_abs-mul x x)) ∙ own_size (x *ℤ x) (square-nonneg x) where
  two : (n : ℕ) → n ^ 2 ≡ n * n
  two n = pow-succ' n 1 ∙ ap (λ (k : ℕ). n * k) (sym (first_power n))

-- one row
one_cost : (r : Row) (n : ℤ) (d : ℕ) → pos (r.weight * (factor_of once (residual r n d) * unsigned_abs (residual r n d) ^ 2)) ≡ pos r.weight *ℤ (residual r n d *ℤ residual r n d)
one_cost r n d =
    ap (λ (k : ℕ). pos (r.weight * (k * unsigned_abs (residual r n d) ^ 2))) (one_factor (residual r n d))
    ∙ ap (λ (k : ℕ). pos (r.weight * k)) (alone (unsigned_abs (residual r n d) ^ 2))
    ∙ times r.weight (unsigned_abs (residual r n d) ^ 2)
    ∙ ap (λ (z : ℤ). pos r.weight *ℤ z) (squared (residual r n d))
  where
    alone : (n : ℕ) → 1 * n ≡ n
    alone n = omega arith

    times : (a b : ℕ) → pos (a * b) ≡ pos a *ℤ pos b
    times a b = simp pos-gap (gap-same _ _ _ _ (omega arith))

spread_row : (w d : ℕ) (y n : ℤ) → pos w *ℤ ((pos d *ℤ y -ℤ n) *ℤ (pos d *ℤ y -ℤ n)) ≡ (((y *ℤ y) *ℤ pos w) *ℤ pos (d * d) -ℤ pos 2 *ℤ (n *ℤ (y *ℤ pos w)) *ℤ pos d) +ℤ (n *ℤ n) *ℤ pos w
spread_row w d y n = rw (is_gap y, is_gap n) (simp (pos-gap, gap-mul, gap-sub, gap-add) (gap-same _ _ _ _ (omega arith)))

-- the cost at n/d, over d squared
abbrev pub by_sums : ℤ → ℤ → ℕ → ℤ → ℕ → ℤ
by_sums q s w n d = (q *ℤ pos (d * d) -ℤ pos 2 *ℤ (n *ℤ s) *ℤ pos d) +ℤ (n *ℤ n) *ℤ pos w

joined : (q q' s s' n : ℤ) (w w' d : ℕ) → by_sums q s w n d +ℤ by_sums q' s' w' n d ≡ by_sums (q +ℤ q') (s +ℤ s') (w + w') n d
joined q q' s s' n w w' d = rw (is_gap q, is_gap q', is_gap s, is_gap s', is_gap n) (simp (pos-gap, gap-mul, gap-sub, gap-add) (gap-same _ _ _ _ (omega arith)))

pub squares_cost : (rows : List Row) (n : ℤ) (d : ℕ) → pos (squares.cost rows n d) ≡ by_sums (weighted_squares rows) (weighted_sum rows) (total_weight rows) n d
squares_cost [] n d = nothing n (d * d) d where
  nothing : (n : ℤ) (a d : ℕ) → pos 0 ≡ (pos 0 *ℤ pos a -ℤ pos 2 *ℤ (n *ℤ pos 0) *ℤ pos d) +ℤ (n *ℤ n) *ℤ pos 0
  nothing n a d = rw (is_gap n) (simp (pos-gap, gap-mul, gap-sub, gap-add) (gap-same _ _ _ _ (omega arith)))
squares_cost (r ∷ rows) n d =
    added (r.weight * (factor_of once (residual r n d) * unsigned_abs (residual r n d) ^ 2)) (squares.cost rows n d)
    ∙ ap (λ (z : ℤ). z +ℤ pos (squares.cost rows n d)) (one_cost r n d ∙ spread_row r.weight d r.value n)
    ∙ ap (λ (z : ℤ). by_sums ((r.value *ℤ r.value) *ℤ pos r.weight) (r.value *ℤ pos r.weight) r.weight n d +ℤ z) (squares_cost rows n d)
    ∙ joined ((r.value *ℤ r.value) *ℤ pos r.weight) (weighted_squares rows) (r.value *ℤ pos r.weight) (weighted_sum rows) n r.weight (total_weight rows) d
    ∙ ap (λ (w : ℕ). by_sums (weighted_squares (r ∷ rows)) (weighted_sum (r ∷ rows)) w n d) (sym (sum_by-cons (λ (r : Row). r.weight) r rows))
  where
    added : (a b : ℕ) → pos (a + b) ≡ pos a +ℤ pos b
    added a b = omega (arith, ints)

-- at the mean: the cost times the weight is (QW - SS) times d squared
pub mean_cost : (q s n : ℤ) (w d : ℕ) → n *ℤ pos w ≡ s *ℤ pos d → by_sums q s w n d *ℤ pos w ≡ (q *ℤ pos w -ℤ s *ℤ s) *ℤ pos (d * d)
mean_cost q s n w d e = opened q s n w d ∙ ap (λ (z : ℤ). (q *ℤ pos w) *ℤ pos (d * d) -ℤ pos 2 *ℤ ((z *ℤ s) *ℤ pos d) +ℤ z *ℤ z) e ∙ closed q s w d where
  opened : (q s n : ℤ) (w d : ℕ) → by_sums q s w n d *ℤ pos w ≡ (q *ℤ pos w) *ℤ pos (d * d) -ℤ pos 2 *ℤ (((n *ℤ pos w) *ℤ s) *ℤ pos d) +ℤ (n *ℤ pos w) *ℤ (n *ℤ pos w)
  opened q s n w d = rw (is_gap q, is_gap s, is_gap n) (simp (pos-gap, gap-mul, gap-sub, gap-add) (gap-same _ _ _ _ (omega arith)))

  closed : (q s : ℤ) (w d : ℕ) → (q *ℤ pos w) *ℤ pos (d * d) -ℤ pos 2 *ℤ (((s *ℤ pos d) *ℤ s) *ℤ pos d) +ℤ (s *ℤ pos d) *ℤ (s *ℤ pos d) ≡ (q *ℤ pos w -ℤ s *ℤ s) *ℤ pos (d * d)
  closed q s w d = rw (is_gap q, is_gap s) (simp (pos-gap, gap-mul, gap-sub, gap-add) (gap-same _ _ _ _ (omega arith)))

-- at a whole value
pub whole_cost : (q s n : ℤ) (w : ℕ) → by_sums q s w n 1 ≡ (q -ℤ pos 2 *ℤ (n *ℤ s)) +ℤ (n *ℤ n) *ℤ pos w
whole_cost q s n w = rw (is_gap q, is_gap s, is_gap n) (simp (pos-gap, gap-mul, gap-sub, gap-add) (gap-same _ _ _ _ (omega arith)))

module _ (rows : List Row) (value : Fraction) (limits : AreWithinLimits rows) (some : 0 < length rows) (lowest : 0 < value.den) where
  abbrev cost : ℕ
  cost = squares.cost rows value.num value.den

  pub weight_some : 0 < total_weight rows
  weight_some = weighs rows limits some

  two : value.den ^ 2 ≡ value.den * value.den
  two = pow-succ' value.den 1 ∙ ap (λ (k : ℕ). value.den * k) (sym (first_power value.den))

  square_some : 0 < value.den ^ 2
  square_some = pow_above value.den 2 lowest

  module _ (mean : IsMean rows value) where
    scaled : pos cost *ℤ pos (total_weight rows) ≡ (weighted_squares rows *ℤ pos (total_weight rows) -ℤ weighted_sum rows *ℤ weighted_sum rows) *ℤ pos (value.den ^ 2)
    scaled =
        ap (λ (z : ℤ). z *ℤ pos (total_weight rows)) (squares_cost rows value.num value.den)
        ∙ mean_cost (weighted_squares rows) (weighted_sum rows) value.num (total_weight rows) value.den mean
        ∙ ap (λ (k : ℕ). (weighted_squares rows *ℤ pos (total_weight rows) -ℤ weighted_sum rows *ℤ weighted_sum rows) *ℤ pos k) (sym two)

    pub mean_spread : (q s : ℤ) (w : ℕ) → q ≡ weighted_squares rows → s ≡ weighted_sum rows → w ≡ total_weight rows → (s *ℤ s) ≤ℤ (q *ℤ pos w)
    mean_spread q s w eq es ew = rw (eq, es, ew) (omega (arith, ints, above)) where
      above : pos 0 ≤ℤ (weighted_squares rows *ℤ pos (total_weight rows) -ℤ weighted_sum rows *ℤ weighted_sum rows)
      above = cancel_le_ℤ (pos 0) _ (value.den ^ 2) square_some (omega (arith, ints, scaled, zero_mul_ℤ (pos (value.den ^ 2)), mul_pos (pos 0) (pos cost) (total_weight rows) (omega (arith, ints)), zero_mul_ℤ (pos (total_weight rows))))

    pub mean_reduces : (q s : ℤ) (w : ℕ) (f : Fraction) → q ≡ weighted_squares rows → s ≡ weighted_sum rows → w ≡ total_weight rows → Reduces (q *ℤ pos w -ℤ s *ℤ s) (pos w) f → Reduces (pos cost) (pos (value.den ^ 2)) f
    mean_reduces q s w f eq es ew r = record { lowest = r.lowest; same = cancel_ℤ _ _ w (subst (λ (n : ℕ). 0 < n) (sym ew) weight_some) here } where
      spread : q *ℤ pos w -ℤ s *ℤ s ≡ weighted_squares rows *ℤ pos (total_weight rows) -ℤ weighted_sum rows *ℤ weighted_sum rows
      spread = rw (eq, es, ew) refl

      here : (f.num *ℤ pos (value.den ^ 2)) *ℤ pos w ≡ (pos cost *ℤ pos f.den) *ℤ pos w
      here =
          assoc_swap f.num (pos (value.den ^ 2)) (pos w)
          ∙ ap (λ (z : ℤ). z *ℤ pos (value.den ^ 2)) r.same
          ∙ assoc_swap (q *ℤ pos w -ℤ s *ℤ s) (pos f.den) (pos (value.den ^ 2))
          ∙ ap (λ (z : ℤ). (z *ℤ pos (value.den ^ 2)) *ℤ pos f.den) spread
          ∙ ap (λ (z : ℤ). z *ℤ pos f.den) (sym scaled ∙ ap (λ (n : ℕ). pos cost *ℤ pos n) (sym ew))
          ∙ assoc_swap (pos cost) (pos w) (pos f.den)

  whole_of : IsMeanOrWhole rows value → (IsMean rows value → ⊥) → IsWholeValue value
  whole_of (inl mean) differs = absurd (differs mean)
  whole_of (inr whole) differs = whole

  module _ (either : IsMeanOrWhole rows value) (differs : IsMean rows value → ⊥) (q s z : ℤ) (w : ℕ) (eq : q ≡ weighted_squares rows) (es : s ≡ weighted_sum rows) (ew : w ≡ total_weight rows) (ez : z ≡ value.num) where
    one : value.den ≡ 1
    one = (whole_of either differs).0

    pub whole_small : unsigned_abs z ≤ 10 ^ 9
    whole_small = omega (arith, ap unsigned_abs ez, (whole_of either differs).1)

    by_parts : pos cost ≡ (q -ℤ pos 2 *ℤ (z *ℤ s)) +ℤ (z *ℤ z) *ℤ pos w
    by_parts =
        squares_cost rows value.num value.den
        ∙ ap (by_sums (weighted_squares rows) (weighted_sum rows) (total_weight rows) value.num) one
        ∙ whole_cost (weighted_squares rows) (weighted_sum rows) value.num (total_weight rows)
        ∙ rw (eq, es, ew, ez) refl

    pub whole_least : pos 0 ≤ℤ ((q -ℤ pos 2 *ℤ (z *ℤ s)) +ℤ (z *ℤ z) *ℤ pos w)
    whole_least = omega (arith, ints, by_parts)

    pub whole_reduces : (f : Fraction) → Reduces ((q -ℤ pos 2 *ℤ (z *ℤ s)) +ℤ (z *ℤ z) *ℤ pos w) (pos 1) f → Reduces (pos cost) (pos (value.den ^ 2)) f
    whole_reduces f r = record { lowest = r.lowest; same = ap (λ (n : ℕ). f.num *ℤ pos (n ^ 2)) one ∙ r.same ∙ ap (λ (t : ℤ). t *ℤ pos f.den) (sym by_parts) }
